use Rattle.std.proofs.Common.{◌≡◌, ℕ, List, Ok, Some, true, sym, subst, ◌∙◌}
use Rattle.std.proofs.lemmas.Result.{err_from_is_err_and}
use Rattle.commit_journal.specs.Answering.{IsFault}
use Rattle.commit_journal.specs.Readers.{has_tag, unmasked_turn}
use Rattle.commit_journal.specs.Turns.{plain_turn}
use Rattle.commit_journal.proofs.Stepped.{owned_by}
use Rattle.commit_journal.proofs.owned.judge_owned.Goals as goal

pub returns-in_err-turn-clause-answer : goal.returns-in_err-turn-clause-answer
returns-in_err-turn-clause-answer c =
    let p = err_from_is_err_and c.from_residual.result c.from_residual.ensures.1 in
    let past = c.args.past.now in
    let head = c.args.head.now in
    let batch = c.args.batch.now in
    let owner = c.args.owner.now.bytes in
    let fault = c.in_err-turn.field-0.0 in
    let test : has_tag (Some owner) past head batch ≡ true = sym c.has_tag.ensures ∙ c.if-not-has_tag.false in
    rw (p.1, p.2, owned_by owner past head batch test)
    (subst (λ (veil : List ℕ). IsFault fault (unmasked_turn veil past head batch)) c.veil_key-veil.ensures c.in_err-turn.ensures.answer)

pub returns-clause-answer : goal.returns-clause-answer
returns-clause-answer c =
    let past = c.args.past.now in
    let head = c.args.head.now in
    let batch = c.args.batch.now in
    let owner = c.args.owner.now.bytes in
    let turn = plain_turn c.in_ok-turn.turn in
    let test : has_tag (Some owner) past head batch ≡ true = sym c.has_tag.ensures ∙ c.if-not-has_tag.false in
    owned_by owner past head batch test
    ∙ subst (λ (veil : List ℕ). unmasked_turn veil past head batch ≡ Ok turn) c.veil_key-veil.ensures c.in_ok-turn.ensures.answer
