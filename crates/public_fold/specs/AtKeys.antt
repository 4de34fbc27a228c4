-- Which edges a step publishes, told from the keys that it gave.
use Rattle.std.specs.Prelude.{ℕ, Bool, ◌||◌, List, map}
use Rattle.cry_base.specs.Sets.{has}
use Rattle.cry_base.specs.declared.roles.Edge.{Edge}
use Rattle.cry_base.specs.declared.roles.Role.{Role}
use Rattle.role_graph.specs.Edges.{same_edge}
use Rattle.role_graph.specs.Roles.{same_role}
use Rattle.move_plan.specs.Change.{Change}

-- the roles of keys
abbrev pub roles_of : List (Role × ℕ) → List Role
roles_of keys = map (λ key. key.0) keys

-- the edge comes with the change, or has the role of one of the keys at an end
unfoldable pub comes_or_has_key : Change → List (Role × ℕ) → Edge → Bool
comes_or_has_key c keys e = has same_edge c.added e || has same_role (roles_of keys) e.from || has same_role (roles_of keys) e.to
