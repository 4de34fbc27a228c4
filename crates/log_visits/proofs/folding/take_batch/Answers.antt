use Rattle.std.proofs.Common.{ap, subst, Err}
use Rattle.commit_journal.specs.Logs.{IsInEpoch}
use Rattle.commit_journal.specs.Placed.{plain_body}
use Rattle.record_format.specs.Plain.{plain_payload}
use Rattle.log_visits.proofs.Folded.{epoch_begun, payload_taken, payload_refused}
use Rattle.log_visits.proofs.folding.take_batch.Goals as goal

pub begin-requires : goal.begin-requires
begin-requires c =
    let placed = c.args.placed.now in subst (IsInEpoch c.args.state.now.keys.epoch placed.epoch.0) (ap plain_body c.in-NewEpoch.is) c.requires.next

pub returns-in-NewEpoch-clause-answer : goal.returns-in-NewEpoch-clause-answer
returns-in-NewEpoch-clause-answer c = λ at seen.
    rw (ap plain_body c.in-NewEpoch.is) (epoch_begun c.args.state.now c.begin.new.state at c.args.placed.now.place c.begin.ensures seen)

pub returns-in-Ok-clause-answer : goal.returns-in-Ok-clause-answer
returns-in-Ok-clause-answer c = λ at seen.
    rw (ap plain_body c.in-Commands.is)
    (payload_taken c.advance.new.self at c.args.placed.now.place (plain_payload c.in-Commands.payload) (c.in-Ok.ensures.fits at seen) (c.in-Ok.ensures.seen at seen))

pub returns-in-Err-Unfit-clause-answer : goal.returns-in-Err-Unfit-clause-answer
returns-in-Err-Unfit-clause-answer c = λ at seen.
    rw (ap plain_body c.in-Commands.is)
    (payload_refused at c.args.placed.now.place (plain_payload c.in-Commands.payload) (c.in-Err-Unfit.ensures.unfit (ap Err c.in-Err-Unfit.field-0-is) at seen))
