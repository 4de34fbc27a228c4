-- Which keys a revoked reader may know, and which of them are due for renewal. This project's own, docs/FORMAT.md.
use Rattle.std.specs.Prelude.{Bool, ◌⊎◌, List, [], ◌∷◌, ◌++◌, filter}
use Rattle.std.specs.List.{list_any}
use Rattle.cry_base.specs.Sets.{In, has}
use Rattle.cry_base.specs.declared.roles.Edge.{Edge}
use Rattle.cry_base.specs.declared.roles.Role.{Role}
use Rattle.role_graph.specs.Ascending.{IsAscending, ascending}
use Rattle.role_graph.specs.Roles.{same_role}
use Rattle.role_graph.specs.Edges.{reach_along}

-- the dirty roles, and all that edges lead to from a role, that role included
unfoldable pub mark : List Role → List Edge → Role → List Role
mark dirty es target = ascending (dirty ++ reach_along es (target ∷ []))

-- marked from each of the roles
unfoldable pub mark_all : List Role → List Edge → List Role → List Role
mark_all dirty es [] = dirty
mark_all dirty es (target ∷ targets) = mark_all (mark dirty es target) es targets

-- whether edges lead from the role to one of the wanted ones
unfoldable pub leads_to_any : List Edge → List Role → Role → Bool
leads_to_any es wanted r = list_any (has same_role (reach_along es (r ∷ []))) wanted

-- the dirty roles from which edges lead to a wanted role, the dirty wanted ones included
unfoldable pub plan : List Role → List Edge → List Role → List Role
plan dirty es wanted = ascending (filter (leads_to_any es wanted) dirty)

-- a set in its order has the roles of two others, and no more
pub record IsJoined (old more new : List Role) : Type 0 where
  pub ascending : IsAscending new
  pub kept : (r : Role) → In r old → In r new
  pub added : (r : Role) → In r new → In r old ⊎ In r more
  pub all : (r : Role) → In r more → In r new
