use Rattle.std.proofs.Common.{◌≡◌, ◌+◌, ◌<◌, ◌≤◌, true, false, cond, drop, Err, Ok, ap, ◌∙◌, arith}
use Rattle.std.specs.Prelude.{nat_le, if◌then◌else◌}
use Rattle.std.proofs.lemmas.Bool.Decides.{nat_tests}
use Rattle.std.proofs.lemmas.Result.{err_from_is_err_and}
use Rattle.cry_base.specs.Layout.{batch_len}
use Rattle.commit_journal.specs.Answering.{Damaged}
use Rattle.commit_journal.specs.Log.{head_at}
use Rattle.commit_journal.specs.Opening.{owned_head}
use Rattle.commit_journal.proofs.Judged.{fault_first}
use Rattle.commit_journal.proofs.OwnedLemmas.{owned_head_tested}
use Rattle.commit_journal.proofs.opening.read_owned_head.Goals as goal

pub returns-in_err-head-clause-answer : goal.returns-in_err-head-clause-answer
unfolding owned_head
returns-in_err-head-clause-answer g c = λ s is.
    let p = err_from_is_err_and c.from_residual.result c.from_residual.ensures.1 in
    let past = c.args.past.now in
    rw (p.1, p.2) (fault_first c.in_err-head.field-0.0 (head_at past (drop past.at s))
    (λ head. if nat_le (past.at + (batch_len + head.size)) c.args.limit then Ok head else Err (Damaged past.at)) (c.in_err-head.ensures.answer s is))

pub returns-then-past-from-clause-answer : goal.returns-then-past-from-clause-answer
returns-then-past-from-clause-answer g c = λ s is.
    let past = c.args.past.now in
    let head = c.in_ok-head.head in
    let limit = c.args.limit in
    let over : limit < past.at + (batch_len + head.size) = omega (arith, c.if-past-from.true, c.from.ensures) in
    let test : nat_le (past.at + (batch_len + head.size)) limit ≡ false = grind (arith, nat_tests) in
    owned_head_tested limit past (drop past.at s) head (c.in_ok-head.ensures.answer s is)
    ∙ ap (λ b. cond b (Ok head) (Err (Damaged past.at))) test

pub returns-clause-answer : goal.returns-clause-answer
returns-clause-answer g c = λ s is.
    let past = c.args.past.now in
    let head = c.in_ok-head.head in
    let limit = c.args.limit in
    let within : past.at + (batch_len + head.size) ≤ limit = omega (arith, c.if-past-from.false, c.from.ensures) in
    let test : nat_le (past.at + (batch_len + head.size)) limit ≡ true = grind (arith, nat_tests) in
    owned_head_tested limit past (drop past.at s) head (c.in_ok-head.ensures.answer s is)
    ∙ ap (λ b. cond b (Ok head) (Err (Damaged past.at))) test
