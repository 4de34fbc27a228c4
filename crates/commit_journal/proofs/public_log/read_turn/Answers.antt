use Rattle.std.proofs.Common.{◌≡◌, ◌+◌, ◌-◌, length, drop, ◌∙◌, ap, take, arith}
use Rattle.std.specs.Prelude.{slice_range, option_copied}
use Rattle.std.proofs.lemmas.Result.{IfOk-weaker, err_from_is_err_and}
use Rattle.cry_base.specs.Layout.{batch_len}
use Rattle.commit_journal.specs.Log.{head_at}
use Rattle.commit_journal.specs.Logs.{turn_by}
use Rattle.commit_journal.specs.Readers.{key_bytes, read_turn}
use Rattle.commit_journal.proofs.Counted.{next_counts, turn_ends}
use Rattle.commit_journal.proofs.Judged.{fault_first, filled}
use Rattle.commit_journal.proofs.Stepped.{turn_is_by}
use Rattle.commit_journal.proofs.Streamed.{goes_on_to}
use Rattle.commit_journal.proofs.Leaved.{leaf_there, whatever_judged}
use Rattle.commit_journal.proofs.public_log.read_turn.Goals as goal

pub returns-in_err-head-clause-answer : goal.returns-in_err-head-clause-answer
unfolding turn_by
returns-in_err-head-clause-answer g c = λ s is.
    let p = err_from_is_err_and c.from_residual.result c.from_residual.ensures.1 in
    let who = key_bytes (option_copied c.args.owner) in
    rw (p.1, p.2) (fault_first c.in_err-head.field-0.0 (head_at c.args.past.now (drop c.args.past.now.at s))
    (λ head. read_turn who c.args.past.now head (take (batch_len + head.size) (drop c.args.past.now.at s)))
    (c.in_err-head.ensures.answer s is))

pub returns-clause-answer : goal.returns-clause-answer
returns-clause-answer g c = λ s is.
    let past = c.args.past.now in
    let head = c.in_ok-head.head in
    let n = c.in_ok-batch.batch.len in
    let sized = g.met.D.Disk.size_is_shown c.args.disk.now s is in
    let long : n ≡ batch_len + head.size = c.in_ok-batch.ensures.len in
    let loan : length c.deref_mut.result.now ≡ n = c.deref_mut.ensures.len in
    let bytes = c.in_ok-read_at.ensures.bytes s (c.in_ok-head.ensures.read_only.same_bytes ∙ is) ∙ ap (λ k. slice_range s past.at (past.at + k)) loan in
    let whole : c.deref_mut-2.result.now ≡ take (batch_len + head.size) (drop past.at s) =
    filled n past.at s c.read_at.new.buf c.in_ok-batch.batch.items c.deref_mut-2.result.now
    (omega (arith, sized, long, c.in_ok-head.ensures.inside)) bytes c.deref_mut-2.ensures.value
    ∙ ap (λ k. take k (drop past.at s)) long
    in
    rw (turn_is_by (read_turn (key_bytes (option_copied c.args.owner))) past (drop past.at s) head c.deref_mut-2.result.now (c.in_ok-head.ensures.answer s is) whole)
    c.judge_read.ensures.answer

pub returns-clause-leaf : goal.returns-clause-leaf
returns-clause-leaf g c = λ s is.
    let past = c.args.past.now in
    let head = c.in_ok-head.head in
    let n = c.in_ok-batch.batch.len in
    let sized = g.met.D.Disk.size_is_shown c.args.disk.now s is in
    let long : n ≡ batch_len + head.size = c.in_ok-batch.ensures.len in
    let loan : length c.deref_mut.result.now ≡ n = c.deref_mut.ensures.len in
    let bytes = c.in_ok-read_at.ensures.bytes s (c.in_ok-head.ensures.read_only.same_bytes ∙ is) ∙ ap (λ k. slice_range s past.at (past.at + k)) loan in
    let whole : c.deref.result.now ≡ take (batch_len + head.size) (drop past.at s) =
    filled n past.at s c.read_at.new.buf c.in_ok-batch.batch.items c.deref.result.now
    (omega (arith, sized, long, c.in_ok-head.ensures.inside)) bytes c.deref.ensures.value
    ∙ ap (λ k. take k (drop past.at s)) long
    in
    whatever_judged c.in_ok-leaf.field-0.items s past.at c.judge_read.result
    (leaf_there past s c.in_ok-leaf.field-0.items c.deref.result.now head (c.in_ok-head.ensures.answer s is) whole
    (c.in_ok-leaf.ensures.items ∙ ap (λ k. take (k - 1) c.deref.result.now) (omega (arith, c.len.ensures, long, c.deref.ensures.len))))

pub returns-clause-next : goal.returns-clause-next
returns-clause-next g c =
    let head = c.in_ok-head.ensures in
    IfOk-weaker c.judge_read.result _ _ (λ next is. goes_on_to c.args.past.now c.in_ok-head.head (g.D.Disk.size_of c.args.disk.now) next head.next.0 head.next.1 head.inside head.small is) c.judge_read.ensures.turn

pub returns-clause-in_epoch : goal.returns-clause-in_epoch
returns-clause-in_epoch g c =
    IfOk-weaker c.judge_read.result _ _ (λ next is. next_counts c.args.past.now c.in_ok-head.head next c.in_ok-head.ensures.next.2 is) c.judge_read.ensures.turn

pub returns-clause-behind : goal.returns-clause-behind
returns-clause-behind g c =
    IfOk-weaker c.judge_read.result _ _ (λ next is. turn_ends c.args.past.now c.in_ok-head.head next c.in_ok-head.ensures.next.2 is) c.judge_read.ensures.turn
