use Rattle.std.proofs.Common.{◌≡◌, take}
use Rattle.role_graph.proofs.edge_list.to_list.Given as goal

abbrev pub invariant-loop-edge : goal.invariant-loop-edge
invariant-loop-edge l = l.list.items ≡ take l.edge-index l.edges
