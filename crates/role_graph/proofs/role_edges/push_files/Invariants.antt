use Rattle.std.proofs.Common.{◌≡◌, ◌++◌, map, take}
use Rattle.role_graph.specs.Edges.{file_edge}
use Rattle.role_graph.proofs.role_edges.push_files.Given as goal

abbrev pub invariant-loop-file : goal.invariant-loop-file
invariant-loop-file l = l.found.items ≡ l.initial.found.items ++ map (λ x. file_edge l.f.0 x.0) (take l.file-index l.files)
