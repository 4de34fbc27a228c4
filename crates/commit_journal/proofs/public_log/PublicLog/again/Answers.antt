use Rattle.std.proofs.Common.{◌≡◌, ◌+◌, List, ℕ, Ok, ap, subst, sym, arith}
use Rattle.std.specs.Prelude.{Option}
use Rattle.std.proofs.lemmas.Result.{err_from_is_err_and}
use Rattle.commit_journal.specs.declared.past.Past.{Past}
use Rattle.commit_journal.specs.Answering.{IsFault, and_then}
use Rattle.commit_journal.specs.Streaming.{again_at, again_in, start_of}
use Rattle.commit_journal.specs.Turns.{plain_turn}
use Rattle.commit_journal.proofs.Judged.{fault_first}
use Rattle.commit_journal.proofs.Streamed.{answers_one, start_is, start_place}
use Rattle.commit_journal.proofs.public_log.PublicLog.again.Goals as goal

pub read_again-requires-clause-behind : goal.read_again-requires-clause-behind
read_again-requires-clause-behind g c = (start_place c.args.self.now c.args.start.now c.key.ensures.reading c.requires.given).0

pub read_again-requires-clause-small : goal.read_again-requires-clause-small
read_again-requires-clause-small g c =
    let place = start_place c.args.self.now c.args.start.now c.key.ensures.reading c.requires.given in
    omega (arith, place.1)

pub returns-in_err-turn-clause-verdict : goal.returns-in_err-turn-clause-verdict
returns-in_err-turn-clause-verdict g c = λ s is.
    let p = err_from_is_err_and c.from_residual.result c.from_residual.ensures.1 in
    let log = c.args.self.now in
    let start = c.args.start.now in
    let fault = c.in_err-turn.field-0.0 in
    let owned = subst (λ (who : Option (List ℕ)). IsFault fault (again_at who start s)) c.key.ensures.owner (c.in_err-turn.ensures.answer s is) in
    let known = subst (λ (past : Past). IsFault fault (again_at log.owner past s)) (sym (start_is log start c.requires.given)) owned in
    rw (p.1, p.2) (fault_first fault (again_at log.owner (start_of log (start.number + 1)) s) (λ turn. Ok turn.placed) known)

pub returns-in_err-turn-clause-same : goal.returns-in_err-turn-clause-same
returns-in_err-turn-clause-same g c = λ s is p shown.
    answers_one c.from_residual.result (again_in c.args.self.now (c.args.start.now.number + 1) s) p (returns-in_err-turn-clause-verdict g c s is) shown

pub returns-clause-verdict : goal.returns-clause-verdict
unfolding and_then
returns-clause-verdict g c = λ s is.
    let log = c.args.self.now in
    let start = c.args.start.now in
    let turn = plain_turn c.in_ok-turn.turn in
    let owned = subst (λ (who : Option (List ℕ)). again_at who start s ≡ Ok turn) c.key.ensures.owner (c.in_ok-turn.ensures.answer s is) in
    let known = subst (λ (past : Past). again_at log.owner past s ≡ Ok turn) (sym (start_is log start c.requires.given)) owned in
    ap (λ r. and_then r (λ t. Ok t.placed)) known

pub returns-clause-same : goal.returns-clause-same
returns-clause-same g c = λ s is p shown.
    answers_one (Ok c.in_ok-turn.turn.placed) (again_in c.args.self.now (c.args.start.now.number + 1) s) p (returns-clause-verdict g c s is) shown
