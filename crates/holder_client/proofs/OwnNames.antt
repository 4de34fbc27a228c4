-- A store that passes the computed test has names of its own.
use Rattle.std.proofs.Common.{◌≡◌, ℕ, Bool, true, not, ◌&&◌, ◌||◌, ◌==◌, List, [], ◌∷◌, ⊎_elim, sym, ap, ◌∙◌}
use Rattle.std.specs.Prelude.{bytes_eq}
use Rattle.std.specs.List.{list_all}
use Rattle.std.proofs.lemmas.Bool.{eqb-true, eq-eqb, eqb-false, and_parts, and_from, or_cases, not-true, false≢true}
use Rattle.cry_base.specs.Naming.{is_name}
use Rattle.cry_base.specs.Sets.{In}
use Rattle.cry_base.specs.Store.{Store, FolderEntry, FileEntry, way_to_root}
use lib.Pointwise.{pointwise_decides}
use Rattle.log_visits.specs.OwnPaths.{IsWhole, HasOwnNames, is_whole, only_if, is_same_file, folders_differ, files_differ, kinds_differ, folders_are_named, ways_are_whole, has_own_names}

bytes_told : (a b : List ℕ) → (bytes_eq a b ≡ true → a ≡ b) × (a ≡ b → bytes_eq a b ≡ true)
bytes_told a b = pointwise_decides (λ x y. (eqb-true x y, eq-eqb x y)) a b

each : (X : Type 0) (p : X → Bool) (x : X) (xs : List X) → list_all p xs ≡ true → In x xs → p x ≡ true
each X p x [] a i = absurd i
each X p x (y ∷ ys) a i =
    let both = and_parts (p y) (list_all p ys) a in ⊎_elim (λ (s : x ≡ y). ap p s ∙ both.0) (λ r. each X p x ys both.1 r) i

follows : (a b : Bool) → only_if a b ≡ true → a ≡ true → b ≡ true
unfolding only_if
follows a b t h = ⊎_elim (λ n. absurd (false≢true (sym (not-true a n) ∙ h))) (λ r. r) (or_cases (not a) b t)

whole : (w : List FolderEntry) → is_whole w ≡ true → IsWhole w
unfolding is_whole
whole [] t = false≢true t
whole (e ∷ []) t = eqb-true e.parent 0 t
whole (e ∷ d ∷ ds) t =
    let both = and_parts (not (e.parent == 0)) (is_whole (d ∷ ds)) t in
    (eqb-false e.parent 0 (not-true (e.parent == 0) both.0), whole (d ∷ ds) both.1)

both_are : (a b : ℕ) (x y : List ℕ) → a ≡ b → x ≡ y → (a == b && bytes_eq x y) ≡ true
both_are a b x y e f = and_from (a == b) (bytes_eq x y) (eq-eqb a b e) ((bytes_told x y).1 f)

same_entry : (a b : FileEntry) → is_same_file a b ≡ true → a ≡ b
unfolding is_same_file
same_entry a b t =
    let both = and_parts (a.id == b.id && a.folder == b.folder) (bytes_eq a.name b.name && bytes_eq a.bytes b.bytes) t in
    let ids = and_parts (a.id == b.id) (a.folder == b.folder) both.0 in
    let texts = and_parts (bytes_eq a.name b.name) (bytes_eq a.bytes b.bytes) both.1 in
    let id = eqb-true a.id b.id ids.0 in let folder = eqb-true a.folder b.folder ids.1 in
    let name = (bytes_told a.name b.name).0 texts.0 in let bytes = (bytes_told a.bytes b.bytes).0 texts.1 in
    λ i. record { id = id i; folder = folder i; name = name i; bytes = bytes i }

pub own_names : (s : Store) → has_own_names s ≡ true → HasOwnNames s
unfolding has_own_names folders_differ files_differ kinds_differ folders_are_named ways_are_whole
own_names s t =
    let halves = and_parts (folders_differ s.folders && (files_differ s.files && kinds_differ s.folders s.files)) (folders_are_named s.folders && ways_are_whole s) t in
    let differ = and_parts (folders_differ s.folders) (files_differ s.files && kinds_differ s.folders s.files) halves.0 in
    let others = and_parts (files_differ s.files) (kinds_differ s.folders s.files) differ.1 in
    let named = and_parts (folders_are_named s.folders) (ways_are_whole s) halves.1 in
    let ways = and_parts (list_all (λ (a : FolderEntry). is_whole (way_to_root s a.id)) s.folders) (list_all (λ (b : FileEntry). is_name b.name && is_whole (way_to_root s b.folder)) s.files) named.1 in
    let folder = λ (a : FolderEntry) (i : In a s.folders). and_parts (a.parent == 0 || is_name a.name) (only_if (a.parent == 0) (a.id == 1))
    (each FolderEntry (λ a. (a.parent == 0 || is_name a.name) && only_if (a.parent == 0) (a.id == 1)) a s.folders named.0 i) in
    let file = λ (b : FileEntry) (j : In b s.files). and_parts (is_name b.name) (is_whole (way_to_root s b.folder))
    (each FileEntry (λ b. is_name b.name && is_whole (way_to_root s b.folder)) b s.files ways.1 j) in record {
      two_folders = λ a b i j p n.
          let row = each FolderEntry (λ a. list_all (λ (b : FolderEntry). only_if (a.parent == b.parent && bytes_eq a.name b.name) (a.id == b.id)) s.folders) a s.folders differ.0 i in
          let cell = each FolderEntry (λ b. only_if (a.parent == b.parent && bytes_eq a.name b.name) (a.id == b.id)) b s.folders row j in
          eqb-true a.id b.id (follows (a.parent == b.parent && bytes_eq a.name b.name) (a.id == b.id) cell (both_are a.parent b.parent a.name b.name p n));
      two_files = λ a b i j p n.
          let row = each FileEntry (λ a. list_all (λ (b : FileEntry). only_if (a.folder == b.folder && bytes_eq a.name b.name) (is_same_file a b)) s.files) a s.files others.0 i in
          let cell = each FileEntry (λ b. only_if (a.folder == b.folder && bytes_eq a.name b.name) (is_same_file a b)) b s.files row j in
          same_entry a b (follows (a.folder == b.folder && bytes_eq a.name b.name) (is_same_file a b) cell (both_are a.folder b.folder a.name b.name p n));
      folder_and_file = λ a b i j p n.
          let row = each FolderEntry (λ a. list_all (λ (b : FileEntry). not (a.parent == b.folder && bytes_eq a.name b.name)) s.files) a s.folders others.1 i in
          let cell = each FileEntry (λ b. not (a.parent == b.folder && bytes_eq a.name b.name)) b s.files row j in
          false≢true (sym (not-true (a.parent == b.folder && bytes_eq a.name b.name) cell) ∙ both_are a.parent b.folder a.name b.name p n);
      folder_name = λ a i n. ⊎_elim (λ z. absurd (n (eqb-true a.parent 0 z))) (λ r. r) (or_cases (a.parent == 0) (is_name a.name) (folder a i).0);
      file_name = λ b j. (file b j).0;
      one_root = λ a i z. eqb-true a.id 1 (follows (a.parent == 0) (a.id == 1) (folder a i).1 (eq-eqb a.parent 0 z));
      folder_way = λ a i. whole (way_to_root s a.id) (each FolderEntry (λ a. is_whole (way_to_root s a.id)) a s.folders ways.0 i);
      file_way = λ b j. whole (way_to_root s b.folder) (file b j).1;
    }
