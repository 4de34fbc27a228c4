-- What edges lead to from a set of roles.
use Rattle.std.specs.Prelude.{not, ℕ, List, map, filter, length}
use Rattle.cry_base.specs.Sets.{In, has}
use Rattle.cry_base.specs.declared.roles.Edge.{Edge}
use Rattle.cry_base.specs.declared.roles.Role.{Role}
use Rattle.role_graph.specs.Roles.{same_role}
use Rattle.role_graph.specs.Edges.{Reaches, edge}

-- a path of edges leads to the role from one of the roles
abbrev pub IsReached : List Edge → List Role → Role → Type 0
IsReached es from r = (a : Role) × In a from × Reaches es a r

-- a path of edges leads from the role to one of the roles
abbrev pub IsLeading : List Edge → List Role → Role → Type 0
IsLeading es targets r = (t : Role) × In t targets × Reaches es r t

-- no edge leads out of the set
abbrev pub IsClosed : List Edge → List Role → Type 0
IsClosed es rs = (e : Edge) → In e es → In e.from rs → In e.to rs

-- how many edges lead to a role outside the set
unfoldable pub count_outside : List Edge → List Role → ℕ
count_outside es rs = length (filter (λ e. not (has same_role rs e.to)) es)

-- the edges, each the other way round
unfoldable pub turned : List Edge → List Edge
turned es = map (λ e. edge e.kind e.to e.from) es
