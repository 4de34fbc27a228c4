-- States of checkpoints: which rows spell a state, and which rows are taken for one. This project's own, docs/FORMAT.md, "The checkpoint".
use Rattle.std.specs.Prelude.{◌≡◌, ◌≢◌, ◌↔◌, ◌⊎◌, ℕ, ◌+◌, ◌*◌, ◌^◌, ◌<◌, ◌≤◌, Bool, ◌&&◌, ◌||◌, ◌==◌, nat_lt, if◌then◌else◌}
use Rattle.std.specs.Prelude.{List, [], ◌∷◌, map, length, Some, IsTrue, AllPairs}
use Rattle.cry_base.specs.Sets.{In}
use Rattle.cry_base.specs.Store.{Store, FolderEntry, FileEntry, GrantEntry}
use Rattle.cry_base.specs.declared.roles.Edge.{Edge}
use Rattle.cry_base.specs.declared.roles.Role.{Role}
use Rattle.cry_base.specs.declared.roles.Role.TheVariants.{Owner}
use Rattle.folder_nodes.specs.Trees.{IsTree}
use Rattle.grant_book.specs.Fitting.{CanStand}
use Rattle.index_format.specs.Plain.{PlainState}
use Rattle.index_format.specs.Writable.{IsWritable}
use Rattle.index_format.specs.declared.rows.CheckRow.{CheckRow}
use Rattle.index_format.specs.declared.rows.FileRow.{FileRow}
use Rattle.index_format.specs.declared.rows.FolderRow.{FolderRow}
use Rattle.index_format.specs.declared.rows.GrantRow.{GrantRow}
use Rattle.index_format.specs.declared.rows.KeyRow.{KeyRow}
use Rattle.index_format.specs.declared.rows.MarkRow.{MarkRow}
use Rattle.index_format.specs.declared.rows.StateNumbers.{StateNumbers}
use Rattle.move_plan.specs.Seen.{seen_store}
use Rattle.role_graph.specs.Ascending.{IsAscending}
use Rattle.role_graph.specs.Edges.{edges}
use Rattle.role_graph.specs.RightsByReach.{MayBeGranted}
use Rattle.role_graph.specs.Roles.{variant_of, role_id, holder_role, clear_of, sub_of, back_of, files_of, data_of, file_role}
use Rattle.public_fold.specs.AtKeys.{roles_of}
use Rattle.public_fold.specs.Keyed.{HasRole}
use Rattle.public_fold.specs.KeyStep.{KeyState, newest, next_serial}
use Rattle.public_fold.specs.Standing.{IsSeenAs, PublicView}
use Rattle.public_fold.specs.Journal.{Stand}

-- From a state to rows.

abbrev pub folder_row : FolderEntry → FolderRow
folder_row e = record { id = e.id; parent = e.parent }

abbrev pub file_row : FileEntry → FileRow
file_row e = record { id = e.id; folder = e.folder }

abbrev pub check_row : List ℕ → CheckRow
check_row check = record { 0 = check }

abbrev pub grant_row : GrantEntry → GrantRow
grant_row g = record { holder = g.holder; folder = g.folder }

abbrev pub key_row : Role → ℕ → KeyRow
key_row r serial = record { place = variant_of r; id = role_id r; serial = serial }

abbrev pub mark_row : Role → MarkRow
mark_row r = record { place = variant_of r; id = role_id r }

abbrev pub numbers_of : PublicView → StateNumbers
numbers_of v = record {
  version = v.keys.version;
  epoch = v.keys.epoch;
  count = v.keys.count;
  folders_made = v.tree.folders_made;
  files_made = v.tree.files_made;
  holders_made = length v.checks;
}

-- one row of keys stands before the other: by the place of the variant, and then by number
abbrev pub row_before : KeyRow → KeyRow → Bool
row_before a b = nat_lt a.place b.place || (a.place == b.place && nat_lt a.id b.id)

-- the rows of keys are in the order of their roles: for each role but the owner's that has a key one row, with its newest serial
pub record AreKeyRows (keys : List (Role × ℕ)) (rows : List KeyRow) : Type 0 where
  pub ascend : AllPairs (λ (a b : KeyRow). IsTrue (row_before a b)) rows
  pub each : (row : KeyRow) → In row rows → (r : Role) × (r ≢ Owner) × (row ≡ key_row r row.serial) × (newest keys r ≡ Some row.serial)
  pub all : (r : Role) (n : ℕ) → newest keys r ≡ Some n → (r ≡ Owner) ⊎ In (key_row r n) rows

-- the rows tell what the state keeps. In which order its keys were given they don't tell
pub record Spells (v : PublicView) (s : PlainState) : Type 0 where
  pub numbers : s.numbers ≡ numbers_of v
  pub folders : s.folders ≡ map folder_row v.tree.folders
  pub files : s.files ≡ map file_row v.tree.files
  pub checks : s.checks ≡ map check_row v.checks
  pub grants : s.grants ≡ map grant_row v.pairs
  pub keys : AreKeyRows v.keys.keys s.keys
  pub marks : s.marks ≡ map mark_row v.keys.dirty

-- no name and no byte of a file is in it
pub record IsBare (s : Store) : Type 0 where
  pub folders : (e : FolderEntry) → In e s.folders → e.name ≡ []
  pub files : (e : FileEntry) → In e s.files → (e.name ≡ []) × (e.bytes ≡ [])

-- From rows to a state.

abbrev pub entry_of_folder : FolderRow → FolderEntry
entry_of_folder row = record { id = row.id; parent = row.parent; name = [] }

abbrev pub entry_of_file : FileRow → FileEntry
entry_of_file row = record { id = row.id; folder = row.folder; name = []; bytes = [] }

abbrev pub grant_of_row : GrantRow → GrantEntry
grant_of_row row = record { holder = row.holder; folder = row.folder }

-- the role with a variant of this place and with this number; what is no place of another is the owner's
unfoldable pub role_at : ℕ → ℕ → Role
role_at place id =
    if place == 1 then holder_role id
    else if place == 2 then clear_of id
    else if place == 3 then sub_of id
    else if place == 4 then back_of id
    else if place == 5 then files_of id
    else if place == 6 then data_of id
    else if place == 7 then file_role id
    else Owner

abbrev pub key_of_row : KeyRow → Role × ℕ
key_of_row row = (role_at row.place row.id, row.serial)

abbrev pub role_of_mark : MarkRow → Role
role_of_mark row = role_at row.place row.id

-- the folders and the files, without names
abbrev pub tree_of : PlainState → Store
tree_of s = record {
  folders = map entry_of_folder s.folders;
  files = map entry_of_file s.files;
  holders = [];
  grants = [];
  folders_made = s.numbers.folders_made;
  files_made = s.numbers.files_made;
  holders_made = 0;
}

abbrev pub checks_of : PlainState → List (List ℕ)
checks_of s = map (λ (row : CheckRow). row.0) s.checks

abbrev pub pairs_of_rows : PlainState → List GrantEntry
pairs_of_rows s = map grant_of_row s.grants

-- the owner's key, of serial 0, which has no row, and then the keys in the order of their rows
abbrev pub keys_of_rows : PlainState → List (Role × ℕ)
keys_of_rows s = (Owner, 0) ∷ map key_of_row s.keys

abbrev pub marked_of : PlainState → List Role
marked_of s = map role_of_mark s.marks

abbrev pub key_state_of : PlainState → KeyState
key_state_of s = record {
  keys = keys_of_rows s;
  dirty = marked_of s;
  epoch = s.numbers.epoch;
  count = s.numbers.count;
  version = s.numbers.version;
}

-- the state that the rows tell, without room
abbrev pub view_of : PlainState → PublicView
view_of s = record {
  tree = tree_of s;
  checks = checks_of s;
  pairs = pairs_of_rows s;
  keys = key_state_of s;
  spare = 0;
  key_spare = 0;
}

-- the store that they tell, as everyone may see it, and the stand
abbrev pub state_store : PlainState → Store
state_store s = seen_store (tree_of s) (record { checks = checks_of s; pairs = pairs_of_rows s; spare = 0 })

abbrev pub stand_of_rows : PlainState → Stand
stand_of_rows s = record { store = state_store s; keys = key_state_of s }

-- Which rows are taken for a state.

-- below 2^30, which each state of a log within the store limit meets
pub record AreSmall (n : StateNumbers) : Type 0 where
  pub epoch : n.epoch < 2 ^ 30
  pub count : n.count < 2 ^ 30
  pub folders_made : n.folders_made < 2 ^ 30
  pub files_made : n.files_made < 2 ^ 30
  pub holders_made : n.holders_made < 2 ^ 30

-- a version that there is: 0 exactly where no folder was made, and there nothing was
pub record HasVersion (n : StateNumbers) : Type 0 where
  pub known : n.version ≤ 2
  pub unmade : (n.version ≡ 0) ↔ (n.folders_made ≡ 0)
  pub no_file : n.folders_made ≡ 0 → n.files_made ≡ 0
  pub no_holder : n.folders_made ≡ 0 → n.holders_made ≡ 0

-- keys of one serial are one; and each was given before the serial
abbrev pub HaveOwnSerials : List (Role × ℕ) → Type 0
HaveOwnSerials keys = (a b : Role × ℕ) → In {X = Role × ℕ} a keys → In {X = Role × ℕ} b keys → a.1 ≡ b.1 → a ≡ b

abbrev pub AreBelow : ℕ → List (Role × ℕ) → Type 0
AreBelow next keys = (key : Role × ℕ) → In {X = Role × ℕ} key keys → key.1 < next

-- rows are of roles that may have keys, that may be marked
abbrev pub HaveKeyPlaces : List KeyRow → Type 0
HaveKeyPlaces rows = (row : KeyRow) → In row rows → (1 ≤ row.place) × (row.place ≤ 7)

abbrev pub HaveMarkPlaces : List MarkRow → Type 0
HaveMarkPlaces rows = (row : MarkRow) → In row rows → (2 ≤ row.place) × (row.place ≤ 7)

-- with a role in the set all is in it that edges of the store lead to
abbrev pub IsClosed : Store → List Role → Type 0
IsClosed s marked = (e : Edge) → In e (edges s) → In e.from marked → In e.to marked

-- rows ascend by role; exactly the roles that stand have keys, whose serials differ and were given
pub record AreSoundKeys (s : PlainState) : Type 0 where
  pub places : HaveKeyPlaces s.keys
  pub ascend : IsAscending (roles_of (keys_of_rows s))
  pub keyed : (r : Role) → HasRole (state_store s) r ↔ In r (roles_of (keys_of_rows s))
  pub own : HaveOwnSerials (keys_of_rows s)
  pub given : AreBelow (next_serial (key_state_of s)) (keys_of_rows s)

-- marks ascend, on roles that stand and aren't roots; with a role all is marked that its edges lead to
pub record AreSoundMarks (s : PlainState) : Type 0 where
  pub places : HaveMarkPlaces s.marks
  pub ascend : IsAscending (marked_of s)
  pub stand : (r : Role) → In r (marked_of s) → HasRole (state_store s) r
  pub closed : IsClosed (state_store s) (marked_of s)

-- rows that a state may have: a tree, grants of made holders on what stands, keys and marks
pub record IsSoundState (s : PlainState) : Type 0 where
  pub writable : IsWritable s
  pub small : AreSmall s.numbers
  pub version : HasVersion s.numbers
  pub tree : IsTree (tree_of s)
  pub grants : CanStand (checks_of s) (pairs_of_rows s)
  pub granted : (g : GrantEntry) → In g (pairs_of_rows s) → MayBeGranted (state_store s) g.folder
  pub keys : AreSoundKeys s
  pub marks : AreSoundMarks s

-- the state was read from these rows: they are sound, it spells them, and it tells no more than they do
pub record IsReadFrom (v : PublicView) (s : PlainState) : Type 0 where
  pub sound : IsSoundState s
  pub spells : Spells v s
  pub tree : v.tree ≡ tree_of s
  pub checks : v.checks ≡ checks_of s
  pub pairs : v.pairs ≡ pairs_of_rows s
  pub keys : v.keys ≡ key_state_of s

-- the rows are those of the state after a log that leaves this stand and these checks
abbrev pub IsStateOf : List (List ℕ) → Stand → PlainState → Type 0
IsStateOf checks at s = (v : PublicView) × IsSeenAs v at × (v.checks ≡ checks) × IsBare v.tree × (newest v.keys.keys Owner ≡ Some 0)
    × Spells v s

-- the state with its keys in another order
abbrev pub with_key_order : PublicView → List (Role × ℕ) → PublicView
with_key_order v keys = record v { keys = record v.keys { keys = keys } }
