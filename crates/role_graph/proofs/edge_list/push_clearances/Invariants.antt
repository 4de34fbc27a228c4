use Rattle.std.proofs.Common.{◌≡◌, ◌==◌, ◌++◌, [], cond}
use Rattle.std.specs.List.{flat_map, list_any}
use Rattle.cry_base.specs.Clearances.{clear_number}
use Rattle.role_graph.specs.Edges.{clearance_edges}
use Rattle.role_graph.proofs.edge_list.push_clearances.Given as goal

abbrev pub invariant-loop-file : goal.invariant-loop-file
invariant-loop-file l =
    l.all.items ++ flat_map (λ r. cond (list_any (λ g. g.folder == clear_number r.id.0) l.grants.pairs) (clearance_edges r.folder.0 r.id.0) []) l.file-iterator
    ≡ l.initial.all.items ++ flat_map (λ r. cond (list_any (λ g. g.folder == clear_number r.id.0) l.grants.pairs) (clearance_edges r.folder.0 r.id.0) []) l.fn.files
