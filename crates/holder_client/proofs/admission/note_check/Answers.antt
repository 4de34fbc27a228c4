use Rattle.std.proofs.Common.{sym, ◌∙◌}
use Rattle.commit_journal.specs.Placed.{plain_placed}
use Rattle.holder_client.proofs.Adding.{later_check, next_check, no_check}
use Rattle.holder_client.proofs.admission.note_check.Goals as goal

pub returns-in_default : goal.returns-in_default
returns-in_default c = λ log has. no_check c.args.checks.now log (plain_placed c.args.placed.now) c.in_default.ensures has

pub returns-then-contains_key : goal.returns-then-contains_key
returns-then-contains_key c = λ log has.
    later_check c.args.checks.now log (plain_placed c.args.placed.now) c.in-Some.published c.in-Some.ensures (sym c.contains_key.ensures ∙ c.if-contains_key.true) has

pub returns : goal.returns
returns c = λ log has.
    next_check c.args.checks.now c.insert.new.self log (plain_placed c.args.placed.now) c.in-Some.published c.in-Some.ensures (sym c.contains_key.ensures ∙ c.if-contains_key.false) c.in_ok-insert.ensures.updates.0 has
