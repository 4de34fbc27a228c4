-- What is done to rows is done to the plain store that they stand for.
use Rattle.std.proofs.Common.{◌≡◌, ℕ, ◌+◌, ◌-◌, ◌<◌, ◌≤◌, Bool, true, false, cond, not, ◌==◌, ◌||◌, List, [], ◌∷◌, ◌++◌, length, map, filter, find, Option, Some, None, refl, sym, ap, ◌∙◌, subst, arith}
use Rattle.std.specs.Prelude.{nat_lt}
use Rattle.std.specs.List.{All, list_any}
use Rattle.std.specs.Option.{option_map}
use Rattle.std.proofs.lemmas.Bool.{lt-ltb, le-ltb}
use Rattle.std.proofs.lemmas.List.{map-append}
use Rattle.std.proofs.lemmas.List.Elements.{All-nil, All-cons, All-head, All-tail, All-weaker}
use Rattle.cry_base.specs.Sets.{In}
use Rattle.cry_base.specs.Store.{Store, FolderEntry, FileEntry, and_above, way_up, way_to_root, folder_entry, file_entry}
use Rattle.cry_base.specs.Stepping.{with_new_folder, with_new_file, with_folder, with_file, without_folder, without_file}
use Rattle.cry_base.proofs.Members.{In-map}
use Rattle.sorted_table.specs.Rows.{row_at, with_row, without, replaced}
use Rattle.folder_nodes.specs.Bare.{folder_of_row, file_of_row, bare_store}
use Rattle.folder_nodes.specs.Trees.{IsTree}
use Rattle.folder_nodes.specs.declared.rows.FolderRow.{FolderRow}
use Rattle.folder_nodes.specs.declared.rows.FileRow.{FileRow}
use Rattle.std.proofs.lemmas.Bool.{eqb-true, false≢true}
use Rattle.cry_base.specs.declared.ids.FolderId.{FolderId}
use Rattle.folder_nodes.specs.Changing.{HasPlace, HasPlaceFor, number_of}
use Rattle.folder_nodes.proofs.Added.{nothing_at, tree_begun, folder_added}
use Rattle.folder_nodes.proofs.Treed.{depth_told}
use Rattle.cry_base.specs.Store.{folder_node, depth_of}
use Rattle.std.specs.Prelude.{IsSome}
use Rattle.folder_nodes.proofs.Lookups.{find-map, filter-map, All-found}

pub empty_tree : IsTree (bare_store [] [] 0 0)
unfolding folder_entry way_to_root way_up and_above
empty_tree = record {
  folders_ascend = λ i j d lt within. absurd (omega arith);
  files_ascend = λ i j d lt within. absurd (omega arith);
  folders_made = All-nil (λ (e : FolderEntry). (1 ≤ e.id) × (e.id ≤ 0));
  files_made = All-nil (λ (e : FileEntry). (1 ≤ e.id) × (e.id ≤ 0));
  root = λ h. absurd (omega (arith, h));
  parents_stand = λ k d h. absurd (omega (arith, h));
  ways_end = λ f. omega arith;
  files_stand = λ k d h. absurd (omega (arith, h));
}

-- a look-up among the rows is one in the store
pub entry_of_row : (rows : List FolderRow) (files : List FileRow) (m n f : ℕ) → folder_entry (bare_store rows files m n) f ≡ option_map folder_of_row (row_at (λ r. r.id.0) rows f)
unfolding folder_entry
entry_of_row rows files m n f = find-map FolderRow FolderEntry folder_of_row (λ e. e.id == f) rows

pub file_entry_of_row : (rows : List FolderRow) (files : List FileRow) (m n x : ℕ) → file_entry (bare_store rows files m n) x ≡ option_map file_of_row (row_at (λ r. r.id.0) files x)
unfolding file_entry
file_entry_of_row rows files m n x = find-map FileRow FileEntry file_of_row (λ e. e.id == x) files

pub any-map : (X Y : Type 0) (h : X → Y) (p : Y → Bool) (xs : List X) → list_any p (map h xs) ≡ list_any (λ x. p (h x)) xs
any-map X Y h p [] = refl
any-map X Y h p (x ∷ xs) = ap (λ b. p (h x) || b) (any-map X Y h p xs)

pub some_of : (X : Type 0) (o : Option X) → IsSome o → (x : X) × (o ≡ Some x)
some_of X None h = absurd (false≢true h)
some_of X (Some x) h = (x, refl)

none_of_map : (X Y : Type 0) (h : X → Y) (o : Option X) → option_map h o ≡ None → o ≡ None
none_of_map X Y h None e = refl
none_of_map X Y h (Some x) e = absurd (cc)

some_of_map : (X Y : Type 0) (h : X → Y) (o : Option X) → IsSome (option_map h o) → IsSome o
some_of_map X Y h None s = absurd (false≢true s)
some_of_map X Y h (Some x) s = refl

filter_all : (X : Type 0) (p : X → Bool) (xs : List X) → All (λ x. p x ≡ true) xs → filter p xs ≡ xs
filter_all X p [] all = refl
filter_all X p (x ∷ xs) all = ap (λ b. cond b (x ∷ filter p xs) (filter p xs)) (All-head (λ x. p x ≡ true) x xs all) ∙ ap (λ l. x ∷ l) (filter_all X p xs (All-tail (λ x. p x ≡ true) x xs all))

filter_nothing : (X : Type 0) (p : X → Bool) (xs : List X) → All (λ x. p x ≡ false) xs → filter p xs ≡ []
filter_nothing X p [] all = refl
filter_nothing X p (x ∷ xs) all = ap (λ b. cond b (x ∷ filter p xs) (filter p xs)) (All-head (λ x. p x ≡ false) x xs all) ∙ filter_nothing X p xs (All-tail (λ x. p x ≡ false) x xs all)

pub All-unmap : (X Y : Type 0) (h : X → Y) (P : Y → Type 0) (xs : List X) → All P (map h xs) → All (λ x. P (h x)) xs
All-unmap X Y h P [] all = All-nil (λ x. P (h x))
All-unmap X Y h P (x ∷ xs) all = All-cons (λ x. P (h x)) x xs (All-head P (h x) (map h xs) all) (All-unmap X Y h P xs (All-tail P (h x) (map h xs) all))

-- a row above all others goes to the end
with_row-last : (T : Type 0) (rank : T → ℕ) (rows : List T) (row : T) → All (λ r. rank r < rank row) rows → with_row rank rows row ≡ rows ++ row ∷ []
with_row-last T rank rows row all =
    ap (λ l. l ++ row ∷ filter (λ r. nat_lt (rank row) (rank r)) rows) (filter_all T (λ r. nat_lt (rank r) (rank row)) rows (All-weaker (λ r. rank r < rank row) (λ r. nat_lt (rank r) (rank row) ≡ true) (λ r h. lt-ltb (rank r) (rank row) h) rows all))
    ∙ ap (λ l. rows ++ row ∷ l) (filter_nothing T (λ r. nat_lt (rank row) (rank r)) rows (All-weaker (λ r. rank r < rank row) (λ r. nat_lt (rank row) (rank r) ≡ false) (λ r h. le-ltb (rank row) (rank r) (omega (arith, h))) rows all))

abbrev folder_row_of : ℕ → ℕ → FolderRow
folder_row_of f p = record { id = record { 0 = f }; parent = p }

abbrev file_row_of : ℕ → ℕ → FileRow
file_row_of x f = record { id = record { 0 = x }; folder = record { 0 = f } }

abbrev store_of : List FolderEntry → List FileEntry → ℕ → ℕ → Store
store_of folders files m n = record { folders = folders; files = files; holders = []; grants = []; folders_made = m; files_made = n; holders_made = 0 }

pub folder_absent : (rows : List FolderRow) (files : List FileRow) (m n : ℕ) → IsTree (bare_store rows files m n) → row_at (λ r. r.id.0) rows (m + 1) ≡ None
folder_absent rows files m n tree =
    none_of_map FolderRow FolderEntry folder_of_row (row_at (λ r. r.id.0) rows (m + 1)) (sym (entry_of_row rows files m n (m + 1)) ∙ nothing_at (bare_store rows files m n) tree (m + 1) (omega arith))

found_id : (xs : List FileEntry) (x : ℕ) (e : FileEntry) → find (λ (z : FileEntry). z.id == x) xs ≡ Some e → e.id ≡ x
found_id [] x e p = absurd (cc)
found_id (z ∷ xs) x e p =
    (elim (z.id == x) as (λ t. z.id == x ≡ t → cond t (Some z) (find (λ (z : FileEntry). z.id == x) xs) ≡ Some e → e.id ≡ x) [
      | true ↦ λ t q. let same : z ≡ e = cc in ap (λ (z : FileEntry). z.id) (sym same) ∙ eqb-true z.id x t
      | false ↦ λ t q. found_id xs x e q
    ]) refl p

no_file_above : (files : List FileRow) (n : ℕ) → All (λ (e : FileEntry). (1 ≤ e.id) × (e.id ≤ n)) (map file_of_row files) → (o : Option FileEntry) → find (λ (e : FileEntry). e.id == n + 1) (map file_of_row files) ≡ o → o ≡ None
no_file_above files n made None p = refl
no_file_above files n made (Some e) p =
    let few : (1 ≤ e.id) × (e.id ≤ n) = All-found FileEntry (λ e. (1 ≤ e.id) × (e.id ≤ n)) (λ e. e.id == n + 1) (map file_of_row files) e made p in
    let id : e.id ≡ n + 1 = found_id (map file_of_row files) (n + 1) e p in
    absurd (omega (arith, few.1, id))

pub file_absent : (rows : List FolderRow) (files : List FileRow) (m n : ℕ) → IsTree (bare_store rows files m n) → row_at (λ r. r.id.0) files (n + 1) ≡ None
unfolding file_entry
file_absent rows files m n tree =
    none_of_map FileRow FileEntry file_of_row (row_at (λ r. r.id.0) files (n + 1)) (sym (file_entry_of_row rows files m n (n + 1)) ∙ no_file_above files n tree.files_made (find (λ (e : FileEntry). e.id == n + 1) (map file_of_row files)) refl)

pub folder_rows_grown : (rows : List FolderRow) (files : List FileRow) (m n p q : ℕ) (new : List FolderRow) → IsTree (bare_store rows files m n) → new ≡ with_row (λ r. r.id.0) rows (folder_row_of (m + 1) p) → p ≡ q → bare_store new files (m + 1) n ≡ with_new_folder (bare_store rows files m n) q []
unfolding with_new_folder
folder_rows_grown rows files m n p q new tree e same =
    let below : All (λ (r : FolderRow). r.id.0 < m + 1) rows = All-weaker (λ (r : FolderRow). (1 ≤ r.id.0) × (r.id.0 ≤ m)) (λ r. r.id.0 < m + 1) (λ r w. omega (arith, w.1)) rows (All-unmap FolderRow FolderEntry folder_of_row (λ e. (1 ≤ e.id) × (e.id ≤ m)) rows tree.folders_made) in
    let last : new ≡ rows ++ folder_row_of (m + 1) p ∷ [] = e ∙ with_row-last FolderRow (λ r. r.id.0) rows (folder_row_of (m + 1) p) below in
    let mapped : map folder_of_row new ≡ map folder_of_row rows ++ folder_of_row (folder_row_of (m + 1) p) ∷ [] = ap (map folder_of_row) last ∙ map-append folder_of_row rows (folder_row_of (m + 1) p ∷ []) in
    ap (λ l. store_of l (map file_of_row files) (m + 1) n) (mapped ∙ ap (λ k. map folder_of_row rows ++ folder_of_row (folder_row_of (m + 1) k) ∷ []) same)

pub file_rows_grown : (rows : List FolderRow) (files : List FileRow) (m n f : ℕ) (new : List FileRow) → IsTree (bare_store rows files m n) → new ≡ with_row (λ r. r.id.0) files (file_row_of (n + 1) f) → bare_store rows new m (n + 1) ≡ with_new_file (bare_store rows files m n) f [] []
unfolding with_new_file
file_rows_grown rows files m n f new tree e =
    let below : All (λ (r : FileRow). r.id.0 < n + 1) files = All-weaker (λ (r : FileRow). (1 ≤ r.id.0) × (r.id.0 ≤ n)) (λ r. r.id.0 < n + 1) (λ r w. omega (arith, w.1)) files (All-unmap FileRow FileEntry file_of_row (λ e. (1 ≤ e.id) × (e.id ≤ n)) files tree.files_made) in
    let last : new ≡ files ++ file_row_of (n + 1) f ∷ [] = e ∙ with_row-last FileRow (λ r. r.id.0) files (file_row_of (n + 1) f) below in
    ap (λ l. store_of (map folder_of_row rows) l m (n + 1)) (ap (map file_of_row) last ∙ map-append file_of_row files (file_row_of (n + 1) f ∷ []))

pub place_told : (s : Store) (f : ℕ) → HasPlace s f → (e : FolderEntry) × (folder_entry s f ≡ Some e) × (length (way_to_root s f) ≤ 64)
place_told s f place =
    let w = some_of FolderEntry (folder_entry s f) place.0 in
    let d : depth_of s (folder_node f) ≡ length (way_to_root s f) - 1 = depth_told s f in
    (w.0, w.1, omega (arith, d, place.1))

-- a folder with a place may be added there
pub place_grown : (s : Store) → IsTree s → (parent : Option FolderId) → HasPlaceFor s parent → IsTree (with_new_folder s (number_of parent) [])
place_grown s tree None none = tree_begun s tree none
place_grown s tree (Some p) place = let w = place_told s p.0 place in folder_added s tree p.0 w.0 w.1 w.2

pub folder_rows_without : (rows : List FolderRow) (files : List FileRow) (m n f : ℕ) (new : List FolderRow) → new ≡ without (λ r. r.id.0) rows f → bare_store new files m n ≡ without_folder (bare_store rows files m n) f
unfolding without_folder
folder_rows_without rows files m n f new e =
    ap (λ l. store_of l (map file_of_row files) m n) (ap (map folder_of_row) e ∙ sym (filter-map FolderRow FolderEntry folder_of_row (λ e. not (e.id == f)) rows))

pub file_rows_without : (rows : List FolderRow) (files : List FileRow) (m n x : ℕ) (new : List FileRow) → new ≡ without (λ r. r.id.0) files x → bare_store rows new m n ≡ without_file (bare_store rows files m n) x
unfolding without_file
file_rows_without rows files m n x new e =
    ap (λ l. store_of (map folder_of_row rows) l m n) (ap (map file_of_row) e ∙ sym (filter-map FileRow FileEntry file_of_row (λ e. not (e.id == x)) files))

pub folder_row_stands : (rows : List FolderRow) (files : List FileRow) (m n f : ℕ) → IsSome (folder_entry (bare_store rows files m n) f) → IsSome (row_at (λ r. r.id.0) rows f)
folder_row_stands rows files m n f s = some_of_map FolderRow FolderEntry folder_of_row (row_at (λ r. r.id.0) rows f) (subst (λ (o : Option FolderEntry). IsSome o) (entry_of_row rows files m n f) s)

pub file_row_stands : (rows : List FolderRow) (files : List FileRow) (m n x : ℕ) → IsSome (file_entry (bare_store rows files m n) x) → IsSome (row_at (λ r. r.id.0) files x)
file_row_stands rows files m n x s = some_of_map FileRow FileEntry file_of_row (row_at (λ r. r.id.0) files x) (subst (λ (o : Option FileEntry). IsSome o) (file_entry_of_row rows files m n x) s)

folders_put : (rows : List FolderRow) (g q : ℕ) → map folder_of_row (map (λ r. cond (r.id.0 == g) (folder_row_of g q) r) rows) ≡ map (λ (e : FolderEntry). cond (e.id == g) (record e { parent = q }) e) (map folder_of_row rows)
folders_put [] g q = refl
folders_put (r ∷ rows) g q =
    (elim (r.id.0 == g) as (λ b. r.id.0 == g ≡ b → folder_of_row (cond b (folder_row_of g q) r) ∷ map folder_of_row (map (λ r. cond (r.id.0 == g) (folder_row_of g q) r) rows) ≡ cond b (record (folder_of_row r) { parent = q }) (folder_of_row r) ∷ map (λ (e : FolderEntry). cond (e.id == g) (record e { parent = q }) e) (map folder_of_row rows)) [
      | true ↦ λ t. ap (λ k. folder_of_row (folder_row_of k q) ∷ map folder_of_row (map (λ r. cond (r.id.0 == g) (folder_row_of g q) r) rows)) (sym (eqb-true r.id.0 g t)) ∙ ap (λ l. folder_of_row (folder_row_of r.id.0 q) ∷ l) (folders_put rows g q)
      | false ↦ λ t. ap (λ l. folder_of_row r ∷ l) (folders_put rows g q)
    ]) refl

files_put : (rows : List FileRow) (x q : ℕ) → map file_of_row (map (λ r. cond (r.id.0 == x) (file_row_of x q) r) rows) ≡ map (λ (e : FileEntry). cond (e.id == x) (record e { folder = q }) e) (map file_of_row rows)
files_put [] x q = refl
files_put (r ∷ rows) x q =
    (elim (r.id.0 == x) as (λ b. r.id.0 == x ≡ b → file_of_row (cond b (file_row_of x q) r) ∷ map file_of_row (map (λ r. cond (r.id.0 == x) (file_row_of x q) r) rows) ≡ cond b (record (file_of_row r) { folder = q }) (file_of_row r) ∷ map (λ (e : FileEntry). cond (e.id == x) (record e { folder = q }) e) (map file_of_row rows)) [
      | true ↦ λ t. ap (λ k. file_of_row (file_row_of k q) ∷ map file_of_row (map (λ r. cond (r.id.0 == x) (file_row_of x q) r) rows)) (sym (eqb-true r.id.0 x t)) ∙ ap (λ l. file_of_row (file_row_of r.id.0 q) ∷ l) (files_put rows x q)
      | false ↦ λ t. ap (λ l. file_of_row r ∷ l) (files_put rows x q)
    ]) refl

pub folder_rows_put : (rows : List FolderRow) (files : List FileRow) (m n g q : ℕ) (new : List FolderRow) → new ≡ replaced (λ r. r.id.0) rows (folder_row_of g q) → bare_store new files m n ≡ with_folder (bare_store rows files m n) g (λ e. record e { parent = q })
unfolding with_folder
folder_rows_put rows files m n g q new e = ap (λ l. store_of l (map file_of_row files) m n) (ap (map folder_of_row) e ∙ folders_put rows g q)

pub file_rows_put : (rows : List FolderRow) (files : List FileRow) (m n x q : ℕ) (new : List FileRow) → new ≡ replaced (λ r. r.id.0) files (file_row_of x q) → bare_store rows new m n ≡ with_file (bare_store rows files m n) x (λ e. record e { folder = q })
unfolding with_file
file_rows_put rows files m n x q new e = ap (λ l. store_of (map folder_of_row rows) l m n) (ap (map file_of_row) e ∙ files_put files x q)

-- equal rows are one store
pub same_rows : (rows other : List FolderRow) (files others : List FileRow) (m n : ℕ) → rows ≡ other → files ≡ others → bare_store rows files m n ≡ bare_store other others m n
same_rows rows other files others m n e f = ap (λ l. bare_store l files m n) e ∙ ap (λ l. bare_store other l m n) f

-- all in a folder are among the rows of its group
pub folder_rows_inside : (rows : List FolderRow) (f : ℕ) (ids : List ℕ) → ((r : FolderRow) → In r rows → r.parent ≡ f → In r.id.0 ids) → (e : FolderEntry) → In e (map folder_of_row rows) → e.parent ≡ f → In e.id ids
folder_rows_inside rows f ids all e i p =
    let w = (In-map FolderRow FolderEntry folder_of_row e rows).0 i in
    subst (λ (z : FolderEntry). In z.id ids) (sym w.2) (all w.0 w.1 (ap (λ (z : FolderEntry). z.parent) (sym w.2) ∙ p))

pub file_rows_inside : (rows : List FileRow) (f : ℕ) (ids : List ℕ) → ((r : FileRow) → In r rows → r.folder.0 ≡ f → In r.id.0 ids) → (e : FileEntry) → In e (map file_of_row rows) → e.folder ≡ f → In e.id ids
file_rows_inside rows f ids all e i p =
    let w = (In-map FileRow FileEntry file_of_row e rows).0 i in
    subst (λ (z : FileEntry). In z.id ids) (sym w.2) (all w.0 w.1 (ap (λ (z : FileEntry). z.folder) (sym w.2) ∙ p))
