use Rattle.std.proofs.Common.{◌≡◌, ◌==◌, ◌++◌, ◌∷◌, [], cond}
use Rattle.std.specs.List.{flat_map, list_any}
use Rattle.cry_base.specs.Clearances.{clear_number}
use Rattle.cry_base.specs.declared.roles.Role.TheVariants.{Owner}
use Rattle.role_graph.specs.Edges.{edge}
use Rattle.role_graph.specs.Roles.{clear_of}
use Rattle.role_graph.proofs.clearances.push_owners.Given as goal

abbrev pub invariant-loop-file : goal.invariant-loop-file
invariant-loop-file l =
    l.found.items ++ flat_map (λ r. cond (list_any (λ g. g.folder == clear_number r.id.0) l.grants.pairs) (edge 1 Owner (clear_of (clear_number r.id.0)) ∷ []) []) l.file-iterator
    ≡ l.initial.found.items ++ flat_map (λ r. cond (list_any (λ g. g.folder == clear_number r.id.0) l.grants.pairs) (edge 1 Owner (clear_of (clear_number r.id.0)) ∷ []) []) l.fn.files
