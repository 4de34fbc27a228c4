use Rattle.std.proofs.Common.{◌≡◌, ℕ, ◌-◌, ◌^◌, ◌<◌}
use Rattle.head_tree.proofs.hashing.split_of.Given as goal

-- a power of two below the number of leaves
abbrev pub invariant-loop-split : goal.invariant-loop-split
invariant-loop-split l = ((j : ℕ) × (l.split ≡ 2 ^ j)) × (l.split < l.leaves)

abbrev pub decreases-loop-split : goal.decreases-loop-split
decreases-loop-split l = l.leaves - l.split
