use Rattle.std.proofs.Common.{◌≡◌, ◌++◌, map, take}
use Rattle.role_graph.specs.Edges.{grant_edge}
use Rattle.role_graph.proofs.role_edges.push_granted.Given as goal

abbrev pub invariant-loop-folder : goal.invariant-loop-folder
invariant-loop-folder l = l.found.items ≡ l.initial.found.items ++ map (λ f. grant_edge l.h.0 f.0) (take l.folder-index l.folders)
