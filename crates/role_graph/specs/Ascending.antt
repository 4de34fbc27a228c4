-- Roles in their order, each once.
use Rattle.std.specs.Prelude.{cond, not, List, [], ◌∷◌, filter, IsTrue}
use Rattle.cry_base.specs.Sets.{In}
use Rattle.cry_base.specs.declared.roles.Role.{Role}
use Rattle.role_graph.specs.Roles.{same_role, role_before}

-- each role stands before all that come after it
abbrev pub IsAscending : List Role → Type 0
IsAscending [] = Unit {0}
IsAscending (r ∷ rs) = ((q : Role) → In q rs → IsTrue (role_before r q)) × IsAscending rs

-- the role at its place in an ascending list, once
unfoldable pub with_role : Role → List Role → List Role
with_role r [] = r ∷ []
with_role r (x ∷ xs) = cond (role_before x r) (x ∷ with_role r xs) (cond (same_role r x) (x ∷ xs) (r ∷ x ∷ xs))

-- the roles ascending, each once
unfoldable pub ascending : List Role → List Role
ascending [] = []
ascending (x ∷ xs) = with_role x (ascending xs)

-- all roles but the one
unfoldable pub without_role : Role → List Role → List Role
without_role r rs = filter (λ q. not (same_role r q)) rs
