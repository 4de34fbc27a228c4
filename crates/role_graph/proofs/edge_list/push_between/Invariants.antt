use Rattle.std.proofs.Common.{◌≡◌, ◌==◌, ◌++◌, [], cond}
use Rattle.std.specs.List.{flat_map}
use Rattle.role_graph.specs.Edges.{parent_edges}
use Rattle.role_graph.proofs.edge_list.push_between.Given as goal

abbrev pub invariant-loop-folder : goal.invariant-loop-folder
invariant-loop-folder l =
    l.all.items ++ flat_map (λ r. cond (r.parent == 0) [] (parent_edges r.id.0 r.parent)) l.folder-iterator
    ≡ l.initial.all.items ++ flat_map (λ r. cond (r.parent == 0) [] (parent_edges r.id.0 r.parent)) l.fn.folders
