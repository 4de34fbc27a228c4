use Rattle.std.proofs.Common.{[], ◌∷◌, replicate, arith, refl}
use Rattle.commit_journal.proofs.BatchLemmas.{two_parts}
use Rattle.commit_journal.proofs.batch.back.Goals as goal

pub returns : goal.returns
returns c =
    two_parts 32 32 c.args.check.now c.args.tag.now c.copy_from_slice.new.self c.copy_from_slice-2.new.self (replicate 33 0) (0 ∷ [])
    c.copy_from_slice.ensures.after c.copy_from_slice-2.ensures.after (omega (arith, c.told-check)) refl
