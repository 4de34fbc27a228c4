-- Which kinds lead to which, by the rows of a table.
use Rattle.std.specs.Prelude.{◌≡◌, ℕ, Bool, ◌&&◌, List, map}
use Rattle.cry_base.specs.Sets.{In, Path}
use Rattle.kind_table.specs.Kinds.{same_kind}
use Rattle.kind_table.specs.declared.kinds.RoleKind.{RoleKind}
use Rattle.kind_table.specs.declared.table.Row.{Row}

-- the row of this number, from a to b
abbrev pub kinds_row : ℕ → RoleKind → RoleKind → Row
kinds_row number a b = record { number = number; from = a; to = b }

-- the pairs of kinds that the rows join
unfoldable pub pairs_of : List Row → List (RoleKind × RoleKind)
pairs_of rows = map (λ r. (r.from, r.to)) rows

-- whether the row goes from a to b
unfoldable pub joins : RoleKind → RoleKind → Row → Bool
joins a b r = same_kind r.from a && same_kind r.to b

-- a row goes from a to b
abbrev pub Allows : List Row → RoleKind → RoleKind → Type 0
Allows rows a b = (r : Row) × In r rows × (r.from ≡ a) × (r.to ≡ b)

-- one row or more, each from where the one before ends, go from a to b
abbrev pub Leads : List Row → RoleKind → RoleKind → Type 0
Leads rows a b = (r : Row) × In r rows × Path (pairs_of rows) a r.from × (r.to ≡ b)
