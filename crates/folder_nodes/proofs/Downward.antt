-- The names from the root down to a node, and the entries of a tree.
use Rattle.std.proofs.Common.{◌≡◌, ◌≢◌, ℕ, suc, ◌+◌, ◌<◌, ◌≤◌, Bool, true, false, cond, ◌==◌, List, [], ◌∷◌, ◌++◌, length, map, drop, find, Option, Some, refl, sym, ap, ◌∙◌, subst, arith, inl, inr, length-append}
use Rattle.std.specs.Prelude.{bytes_eq}
use Rattle.std.specs.List.{All, AllPairs}
use Rattle.std.specs.Option.{option_map, unwrap_or}
use Rattle.std.proofs.lemmas.Bool.{eqb-true, eq-eqb, ne_eqb}
use Rattle.std.proofs.lemmas.List.{length-map}
use Rattle.std.proofs.lemmas.List.Elements.{All-nil, All-cons, All-map, All-weaker}
use lib.Pointwise.{pointwise_decides}
use Rattle.cry_base.specs.Sets.{In}
use Rattle.cry_base.specs.Store.{Store, FolderEntry, FileEntry, backwards, way_up, way_to_root, folder_entry, file_entry, file_node, folder_names, file_names, node_names}
use Rattle.folder_nodes.specs.Titles.{Titles, tree_store}
use Rattle.folder_nodes.specs.Trees.{IsTree}
use Rattle.folder_nodes.proofs.Added.{parent_cases, nothing_at_zero}
use Rattle.folder_nodes.proofs.Lookups.{pairs_map}
use Rattle.folder_nodes.proofs.Named.{named_folder, named_file, folder_named, up_named, levels_named}
use Rattle.folder_nodes.proofs.Treed.{way_on, way_off}
use Rattle.folder_nodes.proofs.Upward.{at_id}

-- the names down to a folder, as a list with one name more behind those of its parent
drop_front : (X : Type 0) (xs : List X) (x : X) → 1 ≤ length xs → drop 1 (xs ++ x ∷ []) ≡ drop 1 xs ++ x ∷ []
drop_front X [] x h = absurd (omega (arith, h))
drop_front X (y ∷ xs) x h = refl

backwards_some : (X : Type 0) (x : X) (xs : List X) → 1 ≤ length (backwards (x ∷ xs))
unfolding backwards
backwards_some X x xs = let e : length (backwards xs ++ x ∷ []) ≡ length (backwards xs) + 1 = length-append (backwards xs) (x ∷ []) in omega (arith, e)

pub names_root : (s : Store) → IsTree s → (e : FolderEntry) → folder_entry s 1 ≡ Some e → folder_names s 1 ≡ []
unfolding folder_names backwards
names_root s tree e p =
    let top : e.parent ≡ 0 = (parent_cases s tree 1 e p).0 refl in
    let way : way_to_root s 1 ≡ e ∷ [] = way_on s tree 1 e p ∙ ap (λ z. e ∷ way_to_root s z) top ∙ ap (λ l. e ∷ l) (way_off s 0 (nothing_at_zero s tree)) in
    ap (λ l. drop 1 (backwards (map (λ (e : FolderEntry). e.name) l))) way

pub names_on : (s : Store) → IsTree s → (f : ℕ) (e p : FolderEntry) → folder_entry s f ≡ Some e → folder_entry s e.parent ≡ Some p → folder_names s f ≡ folder_names s e.parent ++ e.name ∷ []
unfolding folder_names backwards
names_on s tree f e p here above =
    let up = map (λ (e : FolderEntry). e.name) (way_to_root s e.parent) in
    let some : 1 ≤ length (backwards up) = subst (λ l. 1 ≤ length (backwards (map (λ (e : FolderEntry). e.name) l))) (sym (way_on s tree e.parent p above)) (backwards_some (List ℕ) p.name (map (λ (e : FolderEntry). e.name) (way_to_root s p.parent))) in
    ap (λ l. drop 1 (backwards (map (λ (e : FolderEntry). e.name) l))) (way_on s tree f e here)
    ∙ drop_front (List ℕ) (backwards up) e.name some

pub file_names_are : (s : Store) (x : ℕ) (e : FileEntry) → file_entry s x ≡ Some e → node_names s (file_node x) ≡ folder_names s e.folder ++ e.name ∷ []
unfolding node_names file_node file_names
file_names_are s x e p = ap (λ (o : Option FileEntry). unwrap_or (option_map (file_names s) o) []) p

-- each folder of ascending ones is found by its number
pub folders_found : (xs : List FolderEntry) → AllPairs (λ (a b : FolderEntry). a.id < b.id) xs → All (λ (e : FolderEntry). find (λ z. z.id == e.id) xs ≡ Some e) xs
folders_found [] pairs = All-nil (λ (e : FolderEntry). find (λ (z : FolderEntry). z.id == e.id) [] ≡ Some e)
folders_found (x ∷ xs) pairs =
    All-cons (λ (e : FolderEntry). find (λ z. z.id == e.id) (x ∷ xs) ≡ Some e) x xs
    (ap (λ b. cond b (Some x) (find (λ z. z.id == x.id) xs)) (eq-eqb x.id x.id refl))
    (All-weaker (λ (e : FolderEntry). (x.id < e.id) × (find (λ z. z.id == e.id) xs ≡ Some e)) (λ (e : FolderEntry). find (λ z. z.id == e.id) (x ∷ xs) ≡ Some e)
    (λ e w. ap (λ b. cond b (Some x) (find (λ z. z.id == e.id) xs)) (ne_eqb x.id e.id (λ same. omega (arith, w.0, same))) ∙ w.1) xs
    (λ k d h. (pairs 0 (suc k) d (omega arith) (omega arith), folders_found xs (λ i j d lt within. pairs (suc i) (suc j) d (omega arith) (omega arith)) k d h)))

pub bytes_told : (a b : List ℕ) → bytes_eq a b ≡ true → a ≡ b
bytes_told a b t = (pointwise_decides (λ x y. (eqb-true x y, eq-eqb x y)) a b).0 t

pub found_in : (X : Type 0) (p : X → Bool) (xs : List X) (y : X) → find p xs ≡ Some y → In y xs × (p y ≡ true)
found_in X p [] y e = absurd (cc)
found_in X p (x ∷ xs) y e =
    (elim (p x) as (λ b. p x ≡ b → cond b (Some x) (find p xs) ≡ Some y → In y (x ∷ xs) × (p y ≡ true)) [
      | true ↦ λ t q. let same : x ≡ y = cc in (inl (sym same), subst (λ z. p z ≡ true) same t)
      | false ↦ λ t q. let w = found_in X p xs y q in (inr w.0, w.1)
    ]) refl e

pub entry_id : (s : Store) (f : ℕ) (e : FolderEntry) → folder_entry s f ≡ Some e → e.id ≡ f
unfolding folder_entry
entry_id s f e p = at_id s.folders f e p

pub entry_in : (s : Store) (f : ℕ) (e : FolderEntry) → folder_entry s f ≡ Some e → In e s.folders
unfolding folder_entry
entry_in s f e p = (found_in FolderEntry (λ z. z.id == f) s.folders e p).0

pub told_bytes : (a b : List ℕ) → a ≡ b → bytes_eq a b ≡ true
told_bytes a b e = (pointwise_decides (λ x y. (eqb-true x y, eq-eqb x y)) a b).1 e

-- names make no difference to whether folders and files are a tree
folder_still : (s : Store) (n : Titles) (f : ℕ) → (p : FolderEntry) × (folder_entry s f ≡ Some p) → (p : FolderEntry) × (folder_entry (tree_store s n) f ≡ Some p)
folder_still s n f w = (named_folder n w.0, folder_named s n f ∙ ap (option_map (named_folder n)) w.1)

pub tree_named : (s : Store) (n : Titles) → IsTree s → IsTree (tree_store s n)
unfolding tree_store
tree_named s n tree =
    let t : Store = tree_store s n in record {
      folders_ascend = pairs_map FolderEntry (λ a b. a.id < b.id) (named_folder n) (λ a b h. h) s.folders tree.folders_ascend;
      files_ascend = pairs_map FileEntry (λ a b. a.id < b.id) (named_file n) (λ a b h. h) s.files tree.files_ascend;
      folders_made = All-map (λ (e : FolderEntry). (1 ≤ e.id) × (e.id ≤ s.folders_made)) (named_folder n) s.folders tree.folders_made;
      files_made = All-map (λ (e : FileEntry). (1 ≤ e.id) × (e.id ≤ s.files_made)) (named_file n) s.files tree.files_made;
      root = λ h. let w = tree.root h in (named_folder n w.0, folder_named s n 1 ∙ ap (option_map (named_folder n)) w.1, w.2);
      parents_stand = All-map (λ (e : FolderEntry). e.id ≢ 1 → (p : FolderEntry) × (folder_entry t e.parent ≡ Some p)) (named_folder n) s.folders
          (All-weaker (λ (e : FolderEntry). e.id ≢ 1 → (p : FolderEntry) × (folder_entry s e.parent ≡ Some p)) (λ e. e.id ≢ 1 → (p : FolderEntry) × (folder_entry t e.parent ≡ Some p)) (λ e w other. folder_still s n e.parent (w other)) s.folders tree.parents_stand);
      ways_end = λ f.
          let same : length (way_up 66 (map (named_folder n) s.folders) f) ≡ length (way_up 66 s.folders f) = ap length (up_named n 66 s.folders f) ∙ simp length-map in
          subst (λ k. k ≤ 65) (sym same) (tree.ways_end f);
      files_stand = All-map (λ (e : FileEntry). (p : FolderEntry) × (folder_entry t e.folder ≡ Some p) × (length (way_to_root t e.folder) ≤ 64)) (named_file n) s.files
          (All-weaker (λ (e : FileEntry). (p : FolderEntry) × (folder_entry s e.folder ≡ Some p) × (length (way_to_root s e.folder) ≤ 64)) (λ e. (p : FolderEntry) × (folder_entry t e.folder ≡ Some p) × (length (way_to_root t e.folder) ≤ 64))
          (λ e w. (named_folder n w.0, folder_named s n e.folder ∙ ap (option_map (named_folder n)) w.1, subst (λ k. k ≤ 64) (sym (levels_named s n e.folder)) w.2)) s.files tree.files_stand);
    }

pub file_id : (s : Store) (x : ℕ) (e : FileEntry) → file_entry s x ≡ Some e → e.id ≡ x
unfolding file_entry
file_id s x e p = eqb-true e.id x (found_in FileEntry (λ z. z.id == x) s.files e p).1
