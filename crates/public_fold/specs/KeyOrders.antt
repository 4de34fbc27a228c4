-- Keys in another order, of which each role has the same newest one.
use Rattle.std.specs.Prelude.{ℕ, Bool, true, false, cond, ◌==◌, List, ◌++◌, Option, Some, None}
use Rattle.std.specs.List.{list_all}
use Rattle.cry_base.specs.declared.roles.Role.{Role}
use Rattle.public_fold.specs.AtKeys.{roles_of}
use Rattle.public_fold.specs.KeyStep.{newest}

-- whether two serials are one, or there is neither
unfoldable pub same_serial : Option ℕ → Option ℕ → Bool
same_serial None None = true
same_serial None (Some m) = false
same_serial (Some n) None = false
same_serial (Some n) (Some m) = n == m

-- whether each of the roles has the same newest key in both lists
unfoldable pub agree : List Role → List (Role × ℕ) → List (Role × ℕ) → Bool
agree roles keys others = list_all (λ r. same_serial (newest keys r) (newest others r)) roles

-- the other list, where each role has the same newest key in it, and else the one
unfoldable pub agreed_order : List (Role × ℕ) → List (Role × ℕ) → List (Role × ℕ)
agreed_order keys others = cond (agree (roles_of keys ++ roles_of others) keys others) others keys
