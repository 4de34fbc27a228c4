use Rattle.std.proofs.Common.{◌-◌, map}
use Rattle.cry_base.specs.Store.{folder_node, depth_of}
use Rattle.folder_nodes.proofs.Descending.{Descends}
use Rattle.folder_nodes.proofs.shape.Shape.+levels_below.Given as goal

abbrev pub decreases-levels_below : goal.decreases-levels_below
decreases-levels_below l = 65 - depth_of l.self.now.tree (folder_node l.f.0)

abbrev pub invariant-loop-spot : goal.invariant-loop-spot
invariant-loop-spot l = Descends l.self.tree l.f.0 l.levels (map (λ q. q.now) l.yielded)
