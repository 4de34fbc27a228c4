-- The keys of a public state, the newest first, and the rows by which a role's key is found. This project's own, docs/FORMAT.md, "The key
-- step".
use Rattle.std.specs.Prelude.{◌≡◌, ℕ, ◌+◌, ◌*◌, List, [], ◌∷◌, Option, get_or, min}
use Rattle.std.specs.Option.{option_map}
use Rattle.cry_base.specs.declared.roles.Role.{Role}
use Rattle.cry_base.specs.declared.roles.Role.TheVariants.{Owner, Holder, Clear, Sub, Back, Files, Data, File}
use Rattle.role_graph.specs.Roles.{variant_of, role_id}
use Rattle.sorted_table.specs.Rows.{row_at}
use Rattle.public_fold.specs.KeyStep.{newest}
use Rattle.public_fold.specs.declared.key_rows.KeyRow.{KeyRow}

-- what contracts see of a table of keys: the keys, and how many more fit without memory
pub record KeyList : Type 0 where
  pub keys : List (Role × ℕ)
  pub spare : ℕ

-- keys in a table for each kind of role, and how many more of whatever kinds fit without memory
pub record KeyRows : Type 0 where
  pub tables : List (List KeyRow)
  pub spare : ℕ

-- the least of some numbers
unfoldable pub least : List ℕ → ℕ
least [] = 0
least (n ∷ []) = n
least (n ∷ m ∷ ms) = min n (least (m ∷ ms))

-- a number of its own for each role
unfoldable pub role_rank : Role → ℕ
role_rank role = role_id role * 8 + variant_of role

-- the number of its kind; the owner stands among the holders
unfoldable pub kind_of : Role → ℕ
kind_of Owner = 0
kind_of (Holder h) = 0
kind_of (Clear f) = 1
kind_of (Sub f) = 2
kind_of (Back f) = 3
kind_of (Files f) = 4
kind_of (Data f) = 5
kind_of (File x) = 6

-- the place of a row, by which it is ranked
abbrev pub row_place : KeyRow → ℕ
row_place row = row.place

-- the serial that rows have for a role
unfoldable pub serial_at : List KeyRow → Role → Option ℕ
serial_at rows role = option_map (λ row. row.serial.0) (row_at row_place rows (role_rank role))

-- that which the tables have for it
unfoldable pub serial_in : KeyRows → Role → Option ℕ
serial_in t role = serial_at (get_or t.tables (kind_of role) []) role

-- for each role the tables have the serial that is its newest in the list
abbrev pub IsTableOf : List (Role × ℕ) → KeyRows → Type 0
IsTableOf keys t = (role : Role) → serial_in t role ≡ newest keys role
