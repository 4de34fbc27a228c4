use Rattle.std.proofs.Common.{◌≡◌, ◌++◌, map, take}
use Rattle.role_graph.specs.Edges.{edge}
use Rattle.role_graph.specs.Roles.{sub_of}
use Rattle.role_graph.proofs.role_edges.push_children.Given as goal

abbrev pub invariant-loop-child : goal.invariant-loop-child
invariant-loop-child l = l.found.items ≡ l.initial.found.items ++ map (λ g. edge 6 (sub_of l.f.0) (sub_of g.0)) (take l.child-index l.children)
