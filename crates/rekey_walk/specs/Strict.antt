-- Which roles are renewed so that what left a folder is closed to whoever comes later. This project's own, docs/FORMAT.md, "The key step".
use Rattle.std.specs.Prelude.{ℕ, ◌+◌, ◌*◌, Bool, not, ◌&&◌, List, map, filter, length}
use Rattle.cry_base.specs.Sets.{has}
use Rattle.cry_base.specs.declared.roles.Edge.{Edge}
use Rattle.cry_base.specs.declared.roles.Role.{Role}
use Rattle.role_graph.specs.Adjacent.{count_into}
use Rattle.role_graph.specs.Ascending.{ascending}
use Rattle.role_graph.specs.Closing.{turned}
use Rattle.role_graph.specs.Edges.{reach_along}
use Rattle.role_graph.specs.Roles.{is_root_role, same_role}

-- the roles that the removed edges begin at
unfoldable pub sources_of : List Edge → List Role
sources_of removed = map (λ e. e.from) removed

-- the role gets new keys: it is no root, and doesn't go
unfoldable pub may_renew : List Role → Role → Bool
may_renew gone r = not (is_root_role r) && not (has same_role gone r)

-- in their order the roles from which edges lead to where a removed edge begins, that role included, but for roots and what goes
unfoldable pub strict_roles : List Edge → List Edge → List Role → List Role
strict_roles es removed gone = filter (may_renew gone) (ascending (reach_along (turned es) (sources_of removed)))

-- to find them: two look-ups for each edge into a role that leads there, and one for each edge that is removed
unfoldable pub strict_look_ups : List Edge → List Edge → ℕ
strict_look_ups es removed = 2 * count_into es (reach_along (turned es) (sources_of removed)) + length removed
