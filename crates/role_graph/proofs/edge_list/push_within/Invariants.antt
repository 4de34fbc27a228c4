use Rattle.std.proofs.Common.{◌≡◌, ◌++◌}
use Rattle.std.specs.List.{flat_map}
use Rattle.role_graph.specs.Edges.{folder_edges}
use Rattle.role_graph.proofs.edge_list.push_within.Given as goal

abbrev pub invariant-loop-folder : goal.invariant-loop-folder
invariant-loop-folder l = l.all.items ++ flat_map (λ r. folder_edges r.id.0) l.folder-iterator ≡ l.initial.all.items ++ flat_map (λ r. folder_edges r.id.0) l.fn.folders
