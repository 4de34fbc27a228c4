use Rattle.std.proofs.Common.{◌≡◌, take}
use Rattle.move_plan.proofs.edging.edges_of.Given as goal

abbrev pub invariant-loop-edge : goal.invariant-loop-edge
invariant-loop-edge l = l.list.items ≡ take l.edge-index l.edges
