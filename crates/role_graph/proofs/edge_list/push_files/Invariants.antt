use Rattle.std.proofs.Common.{◌≡◌, ◌++◌, map}
use Rattle.role_graph.specs.Edges.{file_edge}
use Rattle.role_graph.proofs.edge_list.push_files.Given as goal

abbrev pub invariant-loop-file : goal.invariant-loop-file
invariant-loop-file l = l.all.items ++ map (λ r. file_edge r.folder.0 r.id.0) l.file-iterator ≡ l.initial.all.items ++ map (λ r. file_edge r.folder.0 r.id.0) l.fn.files
