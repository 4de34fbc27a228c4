use Rattle.std.proofs.Common.{[], ◌++◌, replicate, arith, refl, ap, ◌∙◌}
use Rattle.std.proofs.lemmas.List.{append-nil}
use Rattle.commit_journal.specs.Image.{empty_slot}
use Rattle.commit_journal.proofs.BatchLemmas.{two_parts}
use Rattle.commit_journal.proofs.batch.front.Goals as goal

pub returns : goal.returns
unfolding empty_slot
returns c =
    let head = c.args.head.now in
    two_parts 13 32 head empty_slot c.copy_from_slice.new.self c.copy_from_slice-2.new.self (replicate 32 0) []
    c.copy_from_slice.ensures.after c.copy_from_slice-2.ensures.after (omega (arith, c.told-head)) refl
    ∙ ap (λ r. head ++ r) (append-nil empty_slot)
