use Rattle.std.proofs.Common.{◌≡◌, ◌==◌, ◌++◌, ◌∷◌, [], cond, take}
use Rattle.std.specs.List.{flat_map, list_any}
use Rattle.cry_base.specs.Clearances.{clear_number}
use Rattle.cry_base.specs.declared.ids.FileId.{FileId}
use Rattle.role_graph.specs.Edges.{edge}
use Rattle.role_graph.specs.Roles.{back_of, clear_of}
use Rattle.role_graph.proofs.clearances.push_backs.Given as goal

abbrev pub invariant-loop-file : goal.invariant-loop-file
invariant-loop-file l =
    l.found.items ≡ l.initial.found.items ++ flat_map (λ (x : FileId). cond (list_any (λ g. g.folder == clear_number x.0) l.grants.pairs) (edge 11 (clear_of (clear_number x.0)) (back_of l.f.0) ∷ []) []) (take l.file-index l.files)
