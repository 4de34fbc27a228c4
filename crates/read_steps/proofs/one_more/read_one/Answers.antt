use Rattle.std.proofs.Common.{◌≡◌, None, Some, Ok, Err, ap, sym, subst, ◌∙◌, refl}
use Rattle.std.proofs.lemmas.Result.{err_from_is_err_and}
use Rattle.commit_journal.specs.Answering as opening
use Rattle.commit_journal.specs.Log.{PlainTurn}
use Rattle.commit_journal.specs.Placed.{plain_placed}
use Rattle.commit_journal.specs.Streaming.{LogState, given_turn, next_in}
use Rattle.commit_journal.specs.declared.past.Past.{Past}
use Rattle.read_steps.proofs.NextOnes.{next_ends, next_fails, next_given}
use Rattle.read_steps.proofs.one_more.read_one.Goals as goal

pub returns-in_err-reread_gate-clause-verdict : goal.returns-in_err-reread_gate-clause-verdict
returns-in_err-reread_gate-clause-verdict g c = λ s is.
    let p = err_from_is_err_and c.from_residual.result c.from_residual.ensures.1 in
    rw (p.1, p.2, c.in_err-reread_gate.ensures.failed) tt

pub returns-in_err-placed-clause-verdict : goal.returns-in_err-placed-clause-verdict
returns-in_err-placed-clause-verdict g c = λ s is.
    let p = err_from_is_err_and c.from_residual-in_err-placed.result c.from_residual-in_err-placed.ensures.1 in
    let again = c.in_ok-reread_gate.ensures.gate s is in
    let fault = c.in_err-placed.field-0.0 in
    let known = subst (λ (l : LogState). opening.IsFault fault (next_in l s)) again (c.in_err-placed.ensures.verdict s (c.in_ok-reread_gate.ensures.read_only.same_bytes ∙ is)) in
    rw (p.1, p.2) (next_fails fault c.args.log.now s known)

pub returns-in_default-clause-verdict : goal.returns-in_default-clause-verdict
returns-in_default-clause-verdict g c = λ s is.
    let log = c.args.log.now in
    let again = c.in_ok-reread_gate.ensures.gate s is in
    let known = subst (λ (l : LogState). next_in l s ≡ Ok None) again
    (c.in_ok-placed.ensures.verdict s (c.in_ok-reread_gate.ensures.read_only.same_bytes ∙ is) ∙ ap (λ o. Ok (given_turn c.next.new.self.past o)) c.in_default.is)
    in
    let place = c.place.ensures ∙ ap (λ (p : Past). p.at) c.past-start.ensures.past ∙ ap (λ (l : LogState). l.past.at) c.in_ok-reread_gate.ensures.rest in
    next_ends log s known ∙ ap (λ n. Err (opening.Damaged n)) (sym place)

pub returns-clause-verdict : goal.returns-clause-verdict
returns-clause-verdict g c = λ s is.
    let again = c.in_ok-reread_gate.ensures.gate s is in
    let turn : PlainTurn = record { placed = plain_placed c.in-Some.placed; past = c.next.new.self.past } in
    let known = subst (λ (l : LogState). next_in l s ≡ Ok (Some turn)) again
    (c.in_ok-placed.ensures.verdict s (c.in_ok-reread_gate.ensures.read_only.same_bytes ∙ is) ∙ ap (λ o. Ok (given_turn c.next.new.self.past o)) c.in-Some.is)
    in
    let start = c.past-start.ensures.past ∙ ap (λ (l : LogState). l.past) again in
    (turn, next_given c.args.log.now s turn known, (refl, sym (ap (λ (l : LogState). l.past) c.forget_leaf.ensures), start))
