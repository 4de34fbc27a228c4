-- The roles that edges lead on from: those of a folder, by kind, and a file's clearance.
use Rattle.std.specs.Prelude.{ℕ, ◌==◌, cond, List, [], ◌∷◌}
use Rattle.std.specs.List.{list_any}
use Rattle.cry_base.specs.Clearances.{clear_number}
use Rattle.cry_base.specs.Store.{GrantEntry}
use Rattle.cry_base.specs.declared.roles.Role.{Role}
use Rattle.role_graph.specs.Roles.{clear_of, sub_of, back_of, files_of}
use Rattle.move_plan.specs.declared.strict.Inner.{Inner}
use Rattle.move_plan.specs.declared.strict.Inner.TheVariants as inners

abbrev pub inner_role : Inner → ℕ → Role
inner_role inners.Clear f = clear_of f
inner_role inners.Sub f = sub_of f
inner_role inners.Back f = back_of f
inner_role inners.Files f = files_of f

-- the file's clearance, where one of the grants is on it
abbrev pub clearance_among : List GrantEntry → ℕ → List Role
clearance_among pairs x = cond (list_any (λ g. g.folder == clear_number x) pairs) (clear_of (clear_number x) ∷ []) []
