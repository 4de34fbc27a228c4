use Rattle.std.proofs.Common.{◌≡◌, drop, None}
use Rattle.head_tree.specs.Growing.{root_over}
use Rattle.head_tree.proofs.frontier.root_over.Given as goal

-- the roots from here on make of what they have the whole root
abbrev pub invariant-loop-root : goal.invariant-loop-root
invariant-loop-root l = root_over (drop l.root-index l.roots) l.left l.right ≡ root_over l.roots l.leaves None
