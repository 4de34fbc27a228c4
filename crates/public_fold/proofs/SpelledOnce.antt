-- Rows tell all of a state but the order of its keys.
use Rattle.std.proofs.Common.{◌≡◌, ℕ, suc, ◌<◌, List, [], ◌∷◌, map, inl, inr, ⊎_elim, refl, sym, ap, ◌∙◌, subst, arith}
use Rattle.std.specs.List.{range_with_len}
use Rattle.std.specs.Prelude.{IsTrue, AllPairs, length}
use Rattle.std.proofs.lemmas.Bool.{and_parts, eqb-true, ltb-true, or_cases}
use Rattle.cry_base.specs.Sets.{In}
use Rattle.cry_base.specs.Store.{FileEntry, FolderEntry, GrantEntry}
use Rattle.cry_base.specs.declared.roles.Role.{Role}
use Rattle.index_format.specs.Plain.{PlainState}
use Rattle.index_format.specs.declared.rows.KeyRow.{KeyRow}
use Rattle.move_plan.specs.Seen.{keyless}
use Rattle.role_graph.proofs.Ordered.{stands_at}
use Rattle.public_fold.specs.Standing.{PublicView, public_store_of}
use Rattle.public_fold.specs.States.{AreKeyRows, IsBare, Spells, check_row, checks_of, entry_of_file, entry_of_folder, file_row, folder_row, grant_of_row, grant_row, mark_row, marked_of, pairs_of_rows, role_of_mark, row_before, state_store}
use Rattle.public_fold.proofs.RowRoles.{role_back}

-- ---- lists in which each is in a relation to all behind it

pub first_of : (X : Type 0) (P : X → X → Type 0) (x : X) (xs : List X) → AllPairs P (x ∷ xs) → (y : X) → In y xs → P x y
first_of X P x xs up y i = let w = stands_at X xs y i in subst (λ z. P x z) (w.2 y) (up 0 (suc w.0) y (omega arith) (omega (arith, w.1)))

pub rest_of : (X : Type 0) (P : X → X → Type 0) (x : X) (xs : List X) → AllPairs P (x ∷ xs) → AllPairs P xs
rest_of X P x xs up = λ i j d lt within. up (suc i) (suc j) d (omega arith) (omega arith)

one_first : (X : Type 0) (P : X → X → Type 0) → ((x y : X) → P x y → P y x → ⊥) → (x y : X) (xs ys : List X) → AllPairs P (x ∷ xs) → AllPairs P (y ∷ ys) → In x (y ∷ ys) → In y (x ∷ xs) → x ≡ y
one_first X P both x y xs ys p q i j = ⊎_elim (λ e. e) (λ u. ⊎_elim (λ e. sym e) (λ v. absurd (both x y (first_of X P x xs p y v) (first_of X P y ys q x u))) j) i

one_rest : (X : Type 0) (P : X → X → Type 0) → ((x : X) → P x x → ⊥) → (x : X) (xs ys : List X) → AllPairs P (x ∷ xs) → ((z : X) → In z (x ∷ xs) → In z (x ∷ ys)) → (z : X) → In z xs → In z ys
one_rest X P itself x xs ys p told z i = ⊎_elim
    (λ (e : z ≡ x). absurd (itself x (subst (λ w. P x w) e (first_of X P x xs p z i))))
    (λ u. u) (told z (inr i))

-- their members tell them
pub one_list : (X : Type 0) (P : X → X → Type 0) → ((x : X) → P x x → ⊥) → ((x y : X) → P x y → P y x → ⊥) → (xs ys : List X) → AllPairs P xs → AllPairs P ys
    → ((z : X) → In z xs → In z ys) → ((z : X) → In z ys → In z xs) → xs ≡ ys
one_list X P itself both [] [] p q on back = refl
one_list X P itself both [] (y ∷ ys) p q on back = absurd (back y (inl refl))
one_list X P itself both (x ∷ xs) [] p q on back = absurd (on x (inl refl))
one_list X P itself both (x ∷ xs) (y ∷ ys) p q on back =
    let e : x ≡ y = one_first X P both x y xs ys p q (on x (inl refl)) (back y (inl refl)) in
    let q' : AllPairs P (x ∷ ys) = subst (λ z. AllPairs P (z ∷ ys)) (sym e) q in
    let on' : (z : X) → In z (x ∷ xs) → In z (x ∷ ys) = subst (λ w. (z : X) → In z (x ∷ xs) → In z (w ∷ ys)) (sym e) on in
    let back' : (z : X) → In z (x ∷ ys) → In z (x ∷ xs) = subst (λ w. (z : X) → In z (w ∷ ys) → In z (x ∷ xs)) (sym e) back in
    λ i. e i ∷ one_list X P itself both xs ys (rest_of X P x xs p) (rest_of X P x ys q') (one_rest X P itself x xs ys p on') (one_rest X P itself x ys xs q' back') i

-- ---- the rows of keys

row_itself : (a : KeyRow) → IsTrue (row_before a a) → ⊥
row_itself a t = ⊎_elim
    (λ u. let h : a.place < a.place = ltb-true a.place a.place u in omega arith)
    (λ u. let h : a.id < a.id = ltb-true a.id a.id (and_parts _ _ u).1 in omega arith)
    (or_cases _ _ t)

row_both : (a b : KeyRow) → IsTrue (row_before a b) → IsTrue (row_before b a) → ⊥
row_both a b t u = ⊎_elim
    (λ p.
    let h : a.place < b.place = ltb-true a.place b.place p in ⊎_elim
    (λ q. let g : b.place < a.place = ltb-true b.place a.place q in omega arith)
    (λ q. let g : b.place ≡ a.place = eqb-true b.place a.place (and_parts _ _ q).0 in omega arith)
    (or_cases _ _ u))
    (λ p.
    let same : a.place ≡ b.place = eqb-true a.place b.place (and_parts _ _ p).0 in
    let h : a.id < b.id = ltb-true a.id b.id (and_parts _ _ p).1 in ⊎_elim
    (λ q. let g : b.place < a.place = ltb-true b.place a.place q in omega arith)
    (λ q. let g : b.id < a.id = ltb-true b.id a.id (and_parts _ _ q).1 in omega arith)
    (or_cases _ _ u))
    (or_cases _ _ t)

row_moves : (keys : List (Role × ℕ)) (xs ys : List KeyRow) → AreKeyRows keys xs → AreKeyRows keys ys → (row : KeyRow) → In row xs → In row ys
row_moves keys xs ys p q row i =
    let w = p.each row i in
    ⊎_elim (λ e. absurd (w.1 e)) (λ j. subst (λ z. In z ys) (sym w.2) j) (q.all w.0 row.serial w.3)

pub one_rows : (keys : List (Role × ℕ)) (xs ys : List KeyRow) → AreKeyRows keys xs → AreKeyRows keys ys → xs ≡ ys
one_rows keys xs ys p q = one_list KeyRow (λ a b. IsTrue (row_before a b)) row_itself row_both xs ys p.ascend q.ascend (row_moves keys xs ys p q) (row_moves keys ys xs q p)

pub spelled_once : (v : PublicView) (s t : PlainState) → Spells v s → Spells v t → s ≡ t
spelled_once v s t p q =
    let numbers = p.numbers ∙ sym q.numbers in
    let folders = p.folders ∙ sym q.folders in
    let files = p.files ∙ sym q.files in
    let checks = p.checks ∙ sym q.checks in
    let grants = p.grants ∙ sym q.grants in
    let keys = one_rows v.keys.keys s.keys t.keys p.keys q.keys in
    let marks = p.marks ∙ sym q.marks in
    λ i. record {
      numbers = numbers i;
      folders = folders i;
      files = files i;
      checks = checks i;
      grants = grants i;
      keys = keys i;
      marks = marks i;
    }

-- ---- the store that rows tell

folders_back : (fs : List FolderEntry) → ((e : FolderEntry) → In e fs → e.name ≡ []) → map entry_of_folder (map folder_row fs) ≡ fs
folders_back [] bare = refl
folders_back (e ∷ fs) bare =
    let named = sym (bare e (inl refl)) in
    let rest = folders_back fs (λ x j. bare x (inr j)) in
    λ i. record { id = e.id; parent = e.parent; name = named i } ∷ rest i

files_back : (fs : List FileEntry) → ((e : FileEntry) → In e fs → (e.name ≡ []) × (e.bytes ≡ [])) → map entry_of_file (map file_row fs) ≡ fs
files_back [] bare = refl
files_back (e ∷ fs) bare =
    let named = sym (bare e (inl refl)).0 in
    let held = sym (bare e (inl refl)).1 in
    let rest = files_back fs (λ x j. bare x (inr j)) in
    λ i. record { id = e.id; folder = e.folder; name = named i; bytes = held i } ∷ rest i

pub checks_back : (cs : List (List ℕ)) → map (λ row. row.0) (map check_row cs) ≡ cs
checks_back [] = refl
checks_back (c ∷ cs) = ap (λ l. c ∷ l) (checks_back cs)

pub grants_back : (gs : List GrantEntry) → map grant_of_row (map grant_row gs) ≡ gs
grants_back [] = refl
grants_back (g ∷ gs) = ap (λ l. g ∷ l) (grants_back gs)

pub marks_back : (roles : List Role) → map role_of_mark (map mark_row roles) ≡ roles
marks_back [] = refl
marks_back (r ∷ rs) = λ i. role_back r i ∷ marks_back rs i

pub checks_told : (v : PublicView) (s : PlainState) → Spells v s → checks_of s ≡ v.checks
checks_told v s p = ap (map (λ row. row.0)) p.checks ∙ checks_back v.checks

pub pairs_told : (v : PublicView) (s : PlainState) → Spells v s → pairs_of_rows s ≡ v.pairs
pairs_told v s p = ap (map grant_of_row) p.grants ∙ grants_back v.pairs

pub marks_told : (v : PublicView) (s : PlainState) → Spells v s → marked_of s ≡ v.keys.dirty
marks_told v s p = ap (map role_of_mark) p.marks ∙ marks_back v.keys.dirty

pub folders_told : (v : PublicView) (s : PlainState) → IsBare v.tree → Spells v s → map entry_of_folder s.folders ≡ v.tree.folders
folders_told v s bare p = ap (map entry_of_folder) p.folders ∙ folders_back v.tree.folders bare.folders

pub files_told : (v : PublicView) (s : PlainState) → IsBare v.tree → Spells v s → map entry_of_file s.files ≡ v.tree.files
files_told v s bare p = ap (map entry_of_file) p.files ∙ files_back v.tree.files bare.files

pub store_told : (v : PublicView) (s : PlainState) → IsBare v.tree → Spells v s → state_store s ≡ public_store_of v
store_told v s bare p =
    let folders = folders_told v s bare p in
    let files = files_told v s bare p in
    let checks = checks_told v s p in
    let pairs = pairs_told v s p in
    let numbers = p.numbers in
    λ i. record {
      folders = folders i;
      files = files i;
      holders = map keyless (range_with_len 1 (length (checks i)));
      grants = pairs i;
      folders_made = (numbers i).folders_made;
      files_made = (numbers i).files_made;
      holders_made = length (checks i);
    }
