-- A set of kinds, as a test for each kind at its place, and what it is on a walk along the rows of a table.
use Rattle.std.specs.Prelude.{◌≡◌, ◌⊎◌, ℕ, ◌+◌, List, [], ◌∷◌, Bool, true, false, slice_index_or, slice_set}
use Rattle.cry_base.specs.Sets.{In}
use Rattle.kind_table.specs.Kinds.{place_of}
use Rattle.kind_table.specs.Rows.{Leads}
use Rattle.kind_table.specs.declared.kinds.RoleKind.{RoleKind}
use Rattle.kind_table.specs.declared.table.Row.{Row}

-- whether the kind is in the set
abbrev pub holds : List Bool → RoleKind → Bool
holds set kind = slice_index_or set (place_of kind) false

abbrev pub Holds : List Bool → RoleKind → Type 0
Holds set kind = holds set kind ≡ true

-- the set with one kind more
abbrev pub with_kind : List Bool → RoleKind → List Bool
with_kind set kind = slice_set set (place_of kind) true

-- how many kinds are in the set
unfoldable pub size : List Bool → ℕ
size [] = 0
size (true ∷ set) = size set + 1
size (false ∷ set) = size set

-- the row begins where a walk from a has come
abbrev pub Begins : RoleKind → List Bool → Row → Type 0
Begins a set r = (r.from ≡ a) ⊎ Holds set r.from

-- rows lead from a to each kind of the set
abbrev pub IsLedTo : List Row → RoleKind → List Bool → Type 0
IsLedTo rows a set = (kind : RoleKind) → Holds set kind → Leads rows a kind

-- no row leads on from a or from the set to another kind
abbrev pub IsClosed : List Row → RoleKind → List Bool → Type 0
IsClosed rows a set = (r : Row) → In r rows → Begins a set r → Holds set r.to
