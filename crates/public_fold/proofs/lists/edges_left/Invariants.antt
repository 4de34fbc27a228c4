use Rattle.std.proofs.Common.{◌≡◌, not, filter, take}
use Rattle.cry_base.specs.Sets.{has}
use Rattle.role_graph.specs.Edges.{same_edge}
use Rattle.public_fold.proofs.lists.edges_left.Given as goal

abbrev pub invariant-loop-edge : goal.invariant-loop-edge
invariant-loop-edge l = l.left.items ≡ filter (λ x. not (has same_edge l.removed x)) (take l.edge-index l.edges)
