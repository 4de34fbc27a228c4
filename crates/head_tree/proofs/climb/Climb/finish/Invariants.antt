use Rattle.std.proofs.Common.{ℕ}
use Rattle.head_tree.specs.Climbing.{CanFinish, Hashes}
use Rattle.head_tree.proofs.climb.Climb.finish.Given as goal

abbrev pub invariant-loop-self : goal.invariant-loop-self
invariant-loop-self l = (first : ℕ) (leaves : Hashes) → CanFinish l.initial.self l.peaks.roots first leaves → CanFinish l.self l.peaks.roots first leaves

abbrev pub decreases-loop-self : goal.decreases-loop-self
decreases-loop-self l = l.self.before
