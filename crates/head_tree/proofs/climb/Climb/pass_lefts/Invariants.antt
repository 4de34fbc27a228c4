use Rattle.std.proofs.Common.{◌≡◌, ℕ}
use Rattle.head_tree.specs.Climbing.{CanClimb, Hashes, Reaches, end_of}
use Rattle.head_tree.proofs.climb.Climb.pass_lefts.Given as goal

abbrev pub invariant-loop-self : goal.invariant-loop-self
invariant-loop-self l = (first : ℕ) (leaves : Hashes) → CanClimb l.initial.self l.peaks.roots first leaves
    → Reaches l.self l.peaks.roots first leaves × (end_of l.self ≡ end_of l.initial.self)

abbrev pub decreases-loop-self : goal.decreases-loop-self
decreases-loop-self l = l.self.before
