use Rattle.std.proofs.Common.{◌≡◌, map, take}
use Rattle.role_graph.specs.Adjacent.{edges_but}
use Rattle.role_graph.proofs.walking.put_starts.Given as goal

abbrev pub invariant-loop-edge : goal.invariant-loop-edge
invariant-loop-edge l = l.found.items ≡ map (λ e. e.from) (edges_but l.removed (take l.edge-index l.edges))
