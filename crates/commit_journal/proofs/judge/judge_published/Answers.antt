use Rattle.std.proofs.Common.{◌≡◌, List, ℕ, true, Ok, Some, ap, sym, subst, ◌∙◌}
use Rattle.std.proofs.lemmas.Result.{err_from_is_err_and}
use Rattle.commit_journal.specs.Answering.{IsFault, and_then}
use Rattle.commit_journal.specs.Log.{slot_in}
use Rattle.commit_journal.specs.Readers.{is_published, unmasked_turn}
use Rattle.commit_journal.specs.Turns.{plain_turn}
use Rattle.commit_journal.proofs.Judged.{fault_first}
use Rattle.commit_journal.proofs.Stepped.{published_by}
use Rattle.commit_journal.proofs.judge.judge_published.Goals as goal

pub returns-in_err-turn-clause-answer : goal.returns-in_err-turn-clause-answer
returns-in_err-turn-clause-answer c =
    let p = err_from_is_err_and c.from_residual.result c.from_residual.ensures.1 in
    let past = c.args.past.now in
    let head = c.args.head.now in
    let batch = c.args.batch.now in
    let fault = c.in_err-turn.field-0.0 in
    let test : is_published head.size batch ≡ true = sym c.is_published.ensures ∙ c.if-not-is_published.false in
    let known = subst (λ (slot : List ℕ). IsFault fault (unmasked_turn slot past head batch)) c.array_at-slot.ensures c.in_err-turn.ensures.answer in
    rw (p.1, p.2, published_by past head batch test) (fault_first fault (unmasked_turn (slot_in batch) past head batch) (λ turn. Ok (Some turn)) known)

pub returns-clause-answer : goal.returns-clause-answer
unfolding and_then
returns-clause-answer c =
    let past = c.args.past.now in
    let head = c.args.head.now in
    let batch = c.args.batch.now in
    let turn = plain_turn c.in_ok-turn.turn in
    let test : is_published head.size batch ≡ true = sym c.is_published.ensures ∙ c.if-not-is_published.false in
    let known : unmasked_turn (slot_in batch) past head batch ≡ Ok turn =
    subst (λ (slot : List ℕ). unmasked_turn slot past head batch ≡ Ok turn) c.array_at-slot.ensures c.in_ok-turn.ensures.answer
    in
    published_by past head batch test ∙ ap (λ r. and_then r (λ t. Ok (Some t))) known
