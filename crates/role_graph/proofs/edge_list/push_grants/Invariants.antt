use Rattle.std.proofs.Common.{◌≡◌, ◌++◌, map, take}
use Rattle.role_graph.specs.Edges.{grant_edge}
use Rattle.role_graph.proofs.edge_list.push_grants.Given as goal

abbrev pub invariant-loop-pair : goal.invariant-loop-pair
invariant-loop-pair l = l.all.items ≡ l.initial.all.items ++ map (λ g. grant_edge g.holder g.folder) (take l.pair-index l.pairs)
