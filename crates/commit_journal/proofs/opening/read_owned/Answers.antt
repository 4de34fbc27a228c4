use Rattle.std.proofs.Common.{◌≡◌, ◌+◌, drop, Option, sym, ◌∙◌, subst, take, arith}
use Rattle.std.specs.Prelude.{All, option_to_list}
use Rattle.std.proofs.lemmas.Result.{IfOk-weaker, err_from_is_err_and}
use Rattle.cry_base.specs.Layout.{batch_len}
use Rattle.commit_journal.specs.declared.filling.Unfilled.{Unfilled}
use Rattle.commit_journal.specs.Filling.{IsWithin}
use Rattle.commit_journal.specs.Opening.{owned_at, owned_head, owned_turn}
use Rattle.commit_journal.proofs.CommitLemmas.{ok_both}
use Rattle.commit_journal.proofs.Counted.{turn_counts}
use Rattle.commit_journal.proofs.Judged.{fault_first, read_into_front}
use Rattle.commit_journal.proofs.OwnedLemmas.{owned_turn_is}
use Rattle.commit_journal.proofs.SlotsUnfilled.{unfilled_read, unfilled_within}
use Rattle.commit_journal.proofs.opening.read_owned.Goals as goal

pub returns-in_err-head-clause-answer : goal.returns-in_err-head-clause-answer
unfolding owned_at
returns-in_err-head-clause-answer g c = λ s is.
    let p = err_from_is_err_and c.from_residual.result c.from_residual.ensures.1 in
    rw (p.1, p.2) (fault_first c.in_err-head.field-0.0 (owned_head c.args.limit c.args.past.now (drop c.args.past.now.at s))
    (λ head. owned_turn c.args.owner.now.bytes c.args.past.now head (take (batch_len + head.size) (drop c.args.past.now.at s)))
    (c.in_err-head.ensures.answer s is))

pub returns-clause-answer : goal.returns-clause-answer
returns-clause-answer g c = λ s is.
    let past = c.args.past.now in
    let head = c.in_ok-head.head in
    let whole : c.read_at.new.buf ≡ take (batch_len + head.size) (drop past.at s) =
    read_into_front (batch_len + head.size) past.at s c.as_mut_slice-bytes.result.now c.read_at.new.buf
    (omega (arith, c.in_ok-lengthen.ensures, c.as_mut_slice-bytes.ensures.len)) (c.in_ok-read_at.ensures.bytes s (c.in_ok-head.ensures.read_only.same_bytes ∙ is))
    in
    rw (owned_turn_is c.args.limit c.args.owner.now.bytes past (drop past.at s) head c.read_at.new.buf (c.in_ok-head.ensures.answer s is) whole)
    c.judge_owned.ensures.answer

pub returns-clause-unfilled : goal.returns-clause-unfilled
returns-clause-unfilled g c =
    let past = c.args.past.now in
    let head = c.in_ok-head.head in
    ok_both c.judge_owned.result _ _ _
    (λ o turn slot. λ s is.
    let sized = g.met.D.Disk.size_is_shown c.args.disk.now s is in
    let whole : c.read_at.new.buf ≡ take (batch_len + head.size) (drop past.at s) =
    read_into_front (batch_len + head.size) past.at s c.as_mut_slice-bytes.result.now c.read_at.new.buf
    (omega (arith, c.in_ok-lengthen.ensures, c.as_mut_slice-bytes.ensures.len)) (c.in_ok-read_at.ensures.bytes s (c.in_ok-head.ensures.read_only.same_bytes ∙ is))
    in
    unfilled_read c.args.owner.now.bytes s c.read_at.new.buf past head o whole (omega (arith, sized, c.in_ok-head.ensures.inside)) turn slot)
    c.judge_owned.ensures.turn c.judge_owned.ensures.unfilled

pub returns-clause-within : goal.returns-clause-within
returns-clause-within g c =
    let at = c.args.past.now.at in
    let inside = c.in_ok-head.ensures.inside in
    IfOk-weaker c.judge_owned.result _ _
    (λ o is. subst (λ (slot : Option Unfilled). All (IsWithin (g.D.Disk.size_of c.args.disk.now)) (option_to_list slot)) (sym is)
    (unfilled_within (at + 13) _ _ (g.D.Disk.size_of c.args.disk.now) (omega (arith, c.requires.behind)) (omega (arith, inside))))
    c.judge_owned.ensures.unfilled

pub returns-clause-in_epoch : goal.returns-clause-in_epoch
returns-clause-in_epoch g c =
    IfOk-weaker c.judge_owned.result _ _ (λ o is. turn_counts c.args.past.now c.in_ok-head.head o.turn c.in_ok-head.ensures.next.2 is) c.judge_owned.ensures.turn
