use Rattle.std.proofs.Common.{◌≡◌, ◌++◌, take, drop}
use Rattle.head_tree.specs.Growing.{carried}
use Rattle.head_tree.proofs.frontier.carry.Given as goal

-- no place was written, and what is carried goes on from here
abbrev pub invariant-loop-place : goal.invariant-loop-place
invariant-loop-place l = (l.roots ≡ l.initial.roots)
    × (carried l.initial.roots l.leaves l.fn.root ≡ take l.place-index l.roots ++ carried (drop l.place-index l.roots) l.left l.joined)
