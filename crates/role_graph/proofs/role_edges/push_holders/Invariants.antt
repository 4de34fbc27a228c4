use Rattle.std.proofs.Common.{◌≡◌, ◌++◌, map, take}
use Rattle.role_graph.specs.Edges.{grant_edge}
use Rattle.role_graph.proofs.role_edges.push_holders.Given as goal

abbrev pub invariant-loop-holder : goal.invariant-loop-holder
invariant-loop-holder l = l.found.items ≡ l.initial.found.items ++ map (λ h. grant_edge h.0 l.f.0) (take l.holder-index l.holders)
