-- What the tests of a state's rows tell.
use Rattle.std.proofs.Common.{◌≡◌, ◌≢◌, ℕ, zero, suc, ◌+◌, ◌<◌, ◌≤◌, Bool, true, false, ◌&&◌, ◌||◌, ◌==◌, ◌⊎◌, ◌↔◌, List, [], ◌∷◌, ◌++◌, map, take, drop, length, get_or, Some, None, inl, inr, ⊎_elim, refl, sym, ap, ◌∙◌, subst, arith}
use Rattle.std.specs.Prelude.{Option, IsTrue, is_some, nat_le, nat_lt, ◌-◌, if◌then◌else◌}
use Rattle.std.specs.List.{list_all, list_any, range_with_len}
use Rattle.std.proofs.lemmas.Bool.{and_from, and_parts, eq-eqb, eqb-true, false≢true, le-leb, leb-true, lt-ltb, ltb-true, or_cases, or_left, or_right}
use Rattle.cry_base.specs.Clearances.{clear_base, clear_number, file_of}
use Rattle.cry_base.specs.Sets.{In, has}
use Rattle.cry_base.specs.Store.{Store, FileEntry, FolderEntry, GrantEntry, HolderEntry, file_entry, folder_entry}
use Rattle.cry_base.specs.declared.roles.Role.{Role}
use Rattle.cry_base.specs.declared.roles.Role.TheVariants.{Owner, Holder, Clear, Sub, Back, Files, Data, File}
use Rattle.cry_base.proofs.Finding.{find-found, found-find}
use Rattle.cry_base.proofs.Members.{In-map}
use Rattle.cry_base.proofs.Reaching.{has-in, in-has}
use Rattle.folder_nodes.specs.Looking.{folder_id_of}
use Rattle.grant_book.specs.Granted.{Granted}
use Rattle.move_plan.specs.Seen.{keyless, seen_store}
use Rattle.role_graph.specs.Edges.{has_grants}
use Rattle.role_graph.specs.RightsByReach.{HasClearNumber, HasFolder, IsClearance, MayBeGranted}
use Rattle.role_graph.specs.Roles.{clear_of, file_role, folder_roles, holder_role, same_role, sub_of, back_of, files_of, data_of}
use Rattle.role_graph.proofs.Comparing.{same_role_tells}
use Rattle.public_fold.specs.Keyed.{HasRole}
use Rattle.index_format.specs.declared.rows.FileRow.{FileRow}
use Rattle.index_format.specs.declared.rows.FolderRow.{FolderRow}
use Rattle.index_format.specs.declared.rows.GrantRow.{GrantRow}
use Rattle.index_format.specs.declared.rows.KeyRow.{KeyRow}
use Rattle.index_format.specs.declared.rows.MarkRow.{MarkRow}
use Rattle.public_fold.specs.RowTests.{can_be_granted, has_clear_key, has_clear_number, has_file, has_folder_roles, is_key_place, is_mark_place, stands_beside}
use Rattle.public_fold.specs.States.{AreBelow, HaveKeyPlaces, HaveMarkPlaces}
use Rattle.public_fold.proofs.SoundTrees.{folder_found, holder_made, range_in}

-- each passes just where all do
pub all_pass : (X : Type 0) (p : X → Bool) (xs : List X) → list_all p xs ≡ true → (x : X) → In x xs → p x ≡ true
all_pass X p [] told x i = absurd i
all_pass X p (y ∷ ys) told x i =
    let both = and_parts (p y) (list_all p ys) told in
    ⊎_elim (λ (same : x ≡ y). subst (λ z. p z ≡ true) (sym same) both.0) (λ rest. all_pass X p ys both.1 x rest) i

pub passes_all : (X : Type 0) (p : X → Bool) (xs : List X) → ((x : X) → In x xs → p x ≡ true) → list_all p xs ≡ true
passes_all X p [] each = refl
passes_all X p (x ∷ xs) each = and_from (p x) (list_all p xs) (each x (inl refl)) (passes_all X p xs (λ y i. each y (inr i)))

-- a test of each tells what it tells of one
pub all_tell : (X : Type 0) (p : X → Bool) (P : X → Type 0) (xs : List X) → ((x : X) → IsTrue (p x) ↔ P x) → IsTrue (list_all p xs) ↔ ((x : X) → In x xs → P x)
all_tell X p P xs told = (
  λ t x i. (told x).0 (all_pass X p xs t x i),
  λ each. passes_all X p xs (λ x i. (told x).1 (each x i)),
)

-- a folder that is looked up stands
some_is : {X : Type 0} (o : Option X) → is_some o ≡ true → (x : X) × (o ≡ Some x)
some_is None t = absurd (false≢true t)
some_is (Some x) t = (x, refl)

is_some_of : {X : Type 0} (o : Option X) (x : X) → o ≡ Some x → is_some o ≡ true
is_some_of o x e = ap is_some e

pub folder_told : (t : Store) (f : ℕ) → IsTrue (is_some (folder_entry t f)) ↔ HasFolder t f
unfolding folder_entry
folder_told t f = (
  λ s. (let w = some_is (folder_entry t f) s in let found = folder_found t f w.0 w.1 in (w.0, found.0, found.1)),
  λ w. (let found = found-find FolderEntry (λ x. x.id == f) w.0 t.folders w.1 (eq-eqb w.0.id f w.2) in is_some_of (folder_entry t f) found.0 found.1),
)

-- so does a file
placed : (o : Option FileEntry) → is_some (folder_id_of o) ≡ is_some o
placed None = refl
placed (Some e) = refl

pub file_told : (t : Store) (x : ℕ) → IsTrue (has_file t (Some x)) ↔ ((e : FileEntry) × In e t.files × (e.id ≡ x))
unfolding file_entry
file_told t x = (
  λ s. (let w = some_is (file_entry t x) (sym (placed (file_entry t x)) ∙ s) in
      let found = find-found FileEntry (λ e. e.id == x) t.files w.0 w.1 in (w.0, found.0, eqb-true w.0.id x found.1)),
  λ w. (let found = found-find FileEntry (λ e. e.id == x) w.0 t.files w.1 (eq-eqb w.0.id x w.2) in placed (file_entry t x) ∙ is_some_of (file_entry t x) found.0 found.1),
)

-- the number of a file's clearance
clear_told : (t : Store) (n : ℕ) → IsTrue (has_clear_number t n) ↔ HasClearNumber t n
clear_told t n =
    (elim (nat_le clear_base n) as (λ b. nat_le clear_base n ≡ b → IsTrue (has_file t (if b then Some (n - clear_base) else None)) ↔ HasClearNumber t n) [
      | true ↦ λ above.
          let high : clear_base ≤ n = leb-true clear_base n above in (
            λ s. (let w = (file_told t (n - clear_base)).0 s in let id : w.0.id ≡ n - clear_base = w.2 in (w.0, w.1, omega (arith, high, id))),
            λ w. (let id : clear_base + w.0.id ≡ n = w.2 in (file_told t (n - clear_base)).1 (w.0, w.1, omega (arith, high, id))),
          )
      | false ↦ λ below. (
        λ s. absurd (false≢true s),
        λ w. (let id : clear_base + w.0.id ≡ n = w.2 in absurd (false≢true (sym below ∙ le-leb clear_base n (omega (arith, id))))),
      )
    ]) refl

pub granted_told : (t : Store) (n : ℕ) → IsTrue (can_be_granted t n) ↔ MayBeGranted t n
granted_told t n = (
  λ s. ⊎_elim (λ f. inl ((folder_told t n).0 f)) (λ c. inr ((clear_told t n).0 c)) (or_cases (is_some (folder_entry t n)) (has_clear_number t n) s),
  λ w. ⊎_elim (λ f. or_left (is_some (folder_entry t n)) (has_clear_number t n) ((folder_told t n).1 f)) (λ c. or_right (is_some (folder_entry t n)) (has_clear_number t n) ((clear_told t n).1 c)) w,
)

-- a clearance of a file with a grant
pub clear_key_told : (t : Store) (g : Granted) (n : ℕ) → IsTrue (has_clear_key t g.pairs n) ↔ (HasFolder (seen_store t g) n ⊎ IsClearance (seen_store t g) n)
unfolding has_grants
clear_key_told t g n =
    let any : Bool = list_any (λ (x : GrantEntry). x.folder == n) g.pairs in (
      λ s. ⊎_elim (λ f. inl ((folder_told t n).0 f)) (λ c. (let both = and_parts any (has_clear_number t n) c in inr ((clear_told t n).0 both.1, both.0))) (or_cases (is_some (folder_entry t n)) (any && has_clear_number t n) s),
      λ w. ⊎_elim
          (λ f. or_left (is_some (folder_entry t n)) (any && has_clear_number t n) ((folder_told t n).1 f))
          (λ c. or_right (is_some (folder_entry t n)) (any && has_clear_number t n) (and_from any (has_clear_number t n) c.1 ((clear_told t n).1 c.0))) w,
    )

-- a role stands where its test passes
pub stands_told : (t : Store) (g : Granted) (r : Role) → IsTrue (stands_beside t g.pairs (length g.checks) r) ↔ HasRole (seen_store t g) r
stands_told t g Owner = (λ s. tt, λ h. refl)
stands_told t g (Holder h) = (
  λ s. (let both = and_parts (nat_le 1 h.0) (nat_le h.0 (length g.checks)) s in holder_made t g h.0 (leb-true 1 h.0 both.0, leb-true h.0 (length g.checks) both.1)),
  λ w.
      let told = (In-map ℕ HolderEntry keyless w.0 (range_with_len 1 (length g.checks))).0 w.1 in
      let within = range_in 1 (length g.checks) told.0 told.1 in
      let is : told.0 ≡ h.0 = ap (λ (e : HolderEntry). e.number) (sym told.2) ∙ w.2 in
      let low : 1 ≤ told.0 = within.0 in
      let high : told.0 < 1 + length g.checks = within.1 in
      and_from (nat_le 1 h.0) (nat_le h.0 (length g.checks)) (le-leb 1 h.0 (omega (arith, is, low))) (le-leb h.0 (length g.checks) (omega (arith, is, high))),
)
stands_told t g (Clear f) = clear_key_told t g f.0
stands_told t g (Sub f) = folder_told t f.0
stands_told t g (Back f) = folder_told t f.0
stands_told t g (Files f) = folder_told t f.0
stands_told t g (Data f) = folder_told t f.0
stands_told t g (File x) = file_told t x.0

-- all of the roles stand
pub all_stand : (t : Store) (g : Granted) (roles : List Role) → IsTrue (list_all (λ (r : Role). stands_beside t g.pairs (length g.checks) r) roles) ↔ ((r : Role) → In r roles → HasRole (seen_store t g) r)
all_stand t g roles = all_tell Role (λ r. stands_beside t g.pairs (length g.checks) r) (HasRole (seen_store t g)) roles (stands_told t g)

pub has_told : (keyed : List Role) (r : Role) → IsTrue (has same_role keyed r) ↔ In r keyed
has_told keyed r = (has-in Role same_role same_role_tells keyed r, in-has Role same_role same_role_tells keyed r)

-- the five roles of a folder
pub folder_roles_told : (keyed : List Role) (f : ℕ) → IsTrue (has_folder_roles keyed f) ↔ ((r : Role) → In r (folder_roles f) → In r keyed)
folder_roles_told keyed f = all_tell Role (has same_role keyed) (λ r. In r keyed) (folder_roles f) (has_told keyed)

-- the rows of folders, files and grants
pub folders_told : (keyed : List Role) (rows : List FolderRow) → IsTrue (list_all (λ (row : FolderRow). has_folder_roles keyed row.id) rows) ↔ ((row : FolderRow) → In row rows → (r : Role) → In r (folder_roles row.id) → In r keyed)
folders_told keyed rows = all_tell FolderRow (λ row. has_folder_roles keyed row.id) (λ row. (r : Role) → In r (folder_roles row.id) → In r keyed) rows (λ row. folder_roles_told keyed row.id)

pub files_told : (keyed : List Role) (rows : List FileRow) → IsTrue (list_all (λ (row : FileRow). has same_role keyed (file_role row.id)) rows) ↔ ((row : FileRow) → In row rows → In (file_role row.id) keyed)
files_told keyed rows = all_tell FileRow (λ row. has same_role keyed (file_role row.id)) (λ row. In (file_role row.id) keyed) rows (λ row. has_told keyed (file_role row.id))

pub grants_told : (keyed : List Role) (rows : List GrantRow) → IsTrue (list_all (λ (row : GrantRow). has same_role keyed (clear_of row.folder)) rows) ↔ ((row : GrantRow) → In row rows → In (clear_of row.folder) keyed)
grants_told keyed rows = all_tell GrantRow (λ row. has same_role keyed (clear_of row.folder)) (λ row. In (clear_of row.folder) keyed) rows (λ row. has_told keyed (clear_of row.folder))

-- places of keys and marks, and serials below one
between : (low place high : ℕ) → IsTrue (nat_le low place && nat_le place high) ↔ ((low ≤ place) × (place ≤ high))
between low place high = (
  λ t. (let both = and_parts (nat_le low place) (nat_le place high) t in (leb-true low place both.0, leb-true place high both.1)),
  λ w. and_from (nat_le low place) (nat_le place high) (le-leb low place w.0) (le-leb place high w.1),
)

pub key_places_told : (rows : List KeyRow) → IsTrue (list_all (λ (row : KeyRow). is_key_place row.place) rows) ↔ HaveKeyPlaces rows
key_places_told rows = all_tell KeyRow (λ row. is_key_place row.place) (λ row. (1 ≤ row.place) × (row.place ≤ 7)) rows (λ row. between 1 row.place 7)

pub mark_places_told : (rows : List MarkRow) → IsTrue (list_all (λ (row : MarkRow). is_mark_place row.place) rows) ↔ HaveMarkPlaces rows
mark_places_told rows = all_tell MarkRow (λ row. is_mark_place row.place) (λ row. (2 ≤ row.place) × (row.place ≤ 7)) rows (λ row. between 2 row.place 7)

pub below_told : (next : ℕ) (keys : List (Role × ℕ)) → IsTrue (list_all (λ (key : Role × ℕ). nat_lt key.1 next) keys) ↔ AreBelow next keys
below_told next keys = all_tell (Role × ℕ) (λ key. nat_lt key.1 next) (λ key. key.1 < next) keys (λ key. (ltb-true key.1 next, lt-ltb key.1 next))
