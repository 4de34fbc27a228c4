use Rattle.std.proofs.Common.{◌≡◌, take}
use Rattle.role_graph.specs.Closing.{turned}
use Rattle.role_graph.proofs.reaching.turn.Given as goal

abbrev pub invariant-loop-edge : goal.invariant-loop-edge
invariant-loop-edge l = l.all.items ≡ turned (take l.edge-index l.edges)
