use Rattle.std.proofs.Common.{◌≡◌, ◌++◌, None, drop}
use Rattle.role_graph.specs.Adjacent.{once_after}
use Rattle.role_graph.proofs.touching.each_once.Given as goal

abbrev pub invariant-loop-edge : goal.invariant-loop-edge
invariant-loop-edge l = l.list.items ++ once_after l.last (drop l.edge-index l.edges) ≡ once_after None l.edges
