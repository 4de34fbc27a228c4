-- A tree stays one where a folder or file is added.
use Rattle.std.proofs.Common.{◌≡◌, ◌≢◌, ℕ, suc, ◌+◌, ◌<◌, ◌≤◌, true, false, cond, ◌==◌, List, [], ◌∷◌, ◌++◌, length, Some, None, refl, sym, ap, ◌∙◌, subst, arith, ⊎_elim}
use Rattle.std.proofs.lemmas.Bool.{eqb-true, eq-eqb, ne_eqb, cases_lt}
use Rattle.std.proofs.lemmas.List.Elements.{All-weaker}
use Rattle.cry_base.specs.Store.{Store, FolderEntry, FileEntry, way_up, way_to_root, folder_entry}
use Rattle.cry_base.specs.Stepping.{with_new_folder, with_new_file}
use Rattle.folder_nodes.specs.Trees.{IsTree}
use Rattle.folder_nodes.proofs.Lookups.{find-append, find-front, All-found, All-push, pairs_push}
use Rattle.folder_nodes.proofs.Treed.{rises, levels_are}
use Rattle.folder_nodes.proofs.Upward.{at, at_id, Rises, rises_way, rises_like}

-- a folder that stands was made, and its parent is one that was made or none
pub stands_made : (s : Store) → IsTree s → (f : ℕ) (e : FolderEntry) → folder_entry s f ≡ Some e → (1 ≤ f) × (f ≤ s.folders_made)
unfolding folder_entry
stands_made s tree f e p =
    let w = All-found FolderEntry (λ e. (1 ≤ e.id) × (e.id ≤ s.folders_made)) (λ e. e.id == f) s.folders e tree.folders_made p in
    let same : e.id ≡ f = at_id s.folders f e p in
    (omega (arith, w.0, same), omega (arith, w.1, same))

pub nothing_at : (s : Store) → IsTree s → (f : ℕ) → s.folders_made < f → folder_entry s f ≡ None
nothing_at s tree f h =
    (elim (folder_entry s f) as (λ o. folder_entry s f ≡ o → o ≡ None) [
      | None ↦ λ p. refl
      | Some e ↦ λ p. let w = stands_made s tree f e p in absurd (omega (arith, w.1, h))
    ]) refl

pub nothing_at_zero : (s : Store) → IsTree s → folder_entry s 0 ≡ None
nothing_at_zero s tree =
    (elim (folder_entry s 0) as (λ o. folder_entry s 0 ≡ o → o ≡ None) [
      | None ↦ λ p. refl
      | Some e ↦ λ p. let w = stands_made s tree 0 e p in absurd (omega (arith, w.0))
    ]) refl

-- the root's parent is 0, and every other folder's stands
pub parent_cases : (s : Store) → IsTree s → (f : ℕ) (e : FolderEntry) → folder_entry s f ≡ Some e → (f ≡ 1 → e.parent ≡ 0) × (f ≢ 1 → (p : FolderEntry) × (folder_entry s e.parent ≡ Some p))
unfolding folder_entry
parent_cases s tree f e p =
    let made = stands_made s tree f e p in
    let root = tree.root (omega (arith, made.0, made.1)) in (
      λ one. let same : root.0 ≡ e = cc (ap (λ z. at s.folders z) one) in sym (ap (λ (z : FolderEntry). z.parent) same) ∙ root.2,
      λ ne. All-found FolderEntry (λ e. e.id ≢ 1 → (p : FolderEntry) × (folder_entry s e.parent ≡ Some p)) (λ e. e.id == f) s.folders e tree.parents_stand p (λ one. ne (sym (at_id s.folders f e p) ∙ one)),
    )

pub parent_made : (s : Store) → IsTree s → (f : ℕ) (e : FolderEntry) → folder_entry s f ≡ Some e → e.parent ≤ s.folders_made
parent_made s tree f e p =
    let cases = parent_cases s tree f e p in
    (elim (f == 1) as (λ b. f == 1 ≡ b → e.parent ≤ s.folders_made) [
      | true ↦ λ t. let z : e.parent ≡ 0 = cases.0 (eqb-true f 1 t) in omega (arith, z)
      | false ↦ λ t. let w = cases.1 (λ one. absurd (let u : f == 1 ≡ true = eq-eqb f 1 one in cc)) in (stands_made s tree e.parent w.0 w.1).1
    ]) refl

-- the list with one folder more
at_added : (xs : List FolderEntry) (e : FolderEntry) (g : ℕ) → g ≢ e.id → at (xs ++ e ∷ []) g ≡ at xs g
at_added xs e g ne =
    (elim (at xs g) as (λ o. at xs g ≡ o → at (xs ++ e ∷ []) g ≡ o) [
      | None ↦ λ p. find-append FolderEntry (λ z. z.id == g) xs (e ∷ []) p ∙ ap (λ b. cond b (Some e) None) (ne_eqb e.id g (λ q. ne (sym q)))
      | Some y ↦ λ p. find-front FolderEntry (λ z. z.id == g) xs (e ∷ []) y p
    ]) refl

at_new : (xs : List FolderEntry) (e : FolderEntry) → at xs e.id ≡ None → at (xs ++ e ∷ []) e.id ≡ Some e
at_new xs e p = find-append FolderEntry (λ z. z.id == e.id) xs (e ∷ []) p ∙ ap (λ b. cond b (Some e) None) (eq-eqb e.id e.id refl)

-- a folder is added in p, whose way has at most 64 folders
grown : (s : Store) → IsTree s → (p n : ℕ) → Rises s.folders n p → n ≤ 64 → p ≢ s.folders_made + 1 → (s.folders_made ≡ 0 → p ≡ 0) → (1 ≤ s.folders_made → (q : FolderEntry) × (folder_entry s p ≡ Some q)) → IsTree (with_new_folder s p [])
unfolding folder_entry with_new_folder way_to_root
grown s tree p n r few ne first stands =
    let k = s.folders_made + 1 in
    let new : FolderEntry = record { id = k; parent = p; name = [] } in
    let xs = s.folders in
    let ys = xs ++ new ∷ [] in
    let fresh : at xs k ≡ None = nothing_at s tree k (omega arith) in
    let front : (g : ℕ) (e : FolderEntry) → at xs g ≡ Some e → at ys g ≡ Some e = λ g e q. find-front FolderEntry (λ z. z.id == g) xs (new ∷ []) e q in
    let like : (m f : ℕ) → f ≢ k → Rises xs m f → Rises ys m f =
    rises_like xs ys (λ g. g ≢ k) (λ g apart. at_added xs new g apart) (λ g e apart q same. let made : e.parent ≤ s.folders_made = parent_made s tree g e q in omega (arith, made, same)) in
    let ways : (f : ℕ) → (m : ℕ) × (m ≤ 65) × Rises ys m f = λ f.
    (elim (f == k) as (λ b. f == k ≡ b → (m : ℕ) × (m ≤ 65) × Rises ys m f) [
      | true ↦ λ t. let same : f ≡ k = eqb-true f k t in (suc n, omega (arith, few), subst (λ z. Rises ys (suc n) z) (sym same) (new, at_new xs new fresh, like n p ne r))
      | false ↦ λ t. let w = rises s tree f in (w.0, w.1, like w.0 f (λ same. let u : f == k ≡ true = eq-eqb f k same in absurd (cc)) w.2)
    ]) refl in
    record {
      folders_ascend = pairs_push FolderEntry (λ a b. a.id < b.id) xs new tree.folders_ascend (All-weaker (λ e. (1 ≤ e.id) × (e.id ≤ s.folders_made)) (λ e. e.id < k) (λ e w. omega (arith, w.1)) xs tree.folders_made);
      files_ascend = tree.files_ascend;
      folders_made = All-push FolderEntry (λ e. (1 ≤ e.id) × (e.id ≤ k)) xs new (All-weaker (λ e. (1 ≤ e.id) × (e.id ≤ s.folders_made)) (λ e. (1 ≤ e.id) × (e.id ≤ k)) (λ e w. (w.0, omega (arith, w.1))) xs tree.folders_made) (omega arith, omega arith);
      files_made = tree.files_made;
      root = λ h. ⊎_elim
          (λ (some : 0 < s.folders_made). let w = tree.root (omega (arith, some)) in (w.0, front 1 w.0 w.1, w.2))
          (λ (none : s.folders_made ≤ 0). let one : k ≡ 1 = omega (arith, none) in (new, subst (λ z. at ys z ≡ Some new) one (at_new xs new fresh), first (omega (arith, none))))
          (cases_lt 0 s.folders_made);
      parents_stand = All-push FolderEntry (λ e. e.id ≢ 1 → (q : FolderEntry) × (at ys e.parent ≡ Some q)) xs new
          (All-weaker (λ e. e.id ≢ 1 → (q : FolderEntry) × (at xs e.parent ≡ Some q)) (λ e. e.id ≢ 1 → (q : FolderEntry) × (at ys e.parent ≡ Some q)) (λ e w apart. let q = w apart in (q.0, front e.parent q.0 q.1)) xs tree.parents_stand)
          (λ apart. ⊎_elim
          (λ (some : 0 < s.folders_made). let q = stands (omega (arith, some)) in (q.0, front p q.0 q.1))
          (λ (none : s.folders_made ≤ 0). absurd (apart (omega (arith, none))))
          (cases_lt 0 s.folders_made));
      ways_end = λ f. let w = ways f in let e : length (way_up 66 ys f) ≡ w.0 = rises_way ys w.0 66 f w.2 (omega (arith, w.1)) in omega (arith, e, w.1);
      files_stand = All-weaker
          (λ x. (q : FolderEntry) × (at xs x.folder ≡ Some q) × (length (way_up (length xs) xs x.folder) ≤ 64))
          (λ x. (q : FolderEntry) × (at ys x.folder ≡ Some q) × (length (way_up (length ys) ys x.folder) ≤ 64))
          (λ x w.
          let m = rises s tree x.folder in
          let made = stands_made s tree x.folder w.0 w.1 in
          let apart : x.folder ≢ k = λ same. omega (arith, made.1, same) in
          let old : length (way_up (length xs) xs x.folder) ≡ m.0 = levels_are s m.0 x.folder m.2 in
          let young : length (way_up (length ys) ys x.folder) ≡ m.0 = levels_are (with_new_folder s p []) m.0 x.folder (like m.0 x.folder apart m.2) in
          (w.0, front x.folder w.0 w.1, omega (arith, old, young, w.2))) s.files tree.files_stand;
    }

-- the first folder is the root
pub tree_begun : (s : Store) → IsTree s → s.folders_made ≡ 0 → IsTree (with_new_folder s 0 [])
unfolding folder_entry
tree_begun s tree none = grown s tree 0 0 (nothing_at_zero s tree) (omega arith) (omega arith) (λ _. refl) (λ some. absurd (omega (arith, some, none)))

-- a folder in a folder
pub folder_added : (s : Store) → IsTree s → (p : ℕ) (q : FolderEntry) → folder_entry s p ≡ Some q → length (way_to_root s p) ≤ 64 → IsTree (with_new_folder s p [])
folder_added s tree p q stands few =
    let w = rises s tree p in
    let n : length (way_to_root s p) ≡ w.0 = levels_are s w.0 p w.2 in
    let made = stands_made s tree p q stands in
    grown s tree p w.0 w.2 (omega (arith, n, few)) (λ same. omega (arith, made.1, same)) (λ none. absurd (omega (arith, made.0, made.1, none))) (λ _. (q, stands))

-- a file in a folder
pub file_added : (s : Store) → IsTree s → (f : ℕ) (p : FolderEntry) → folder_entry s f ≡ Some p → length (way_to_root s f) ≤ 64 → IsTree (with_new_file s f [] [])
unfolding folder_entry with_new_file way_to_root
file_added s tree f p stands few =
    let k = s.files_made + 1 in
    let new : FileEntry = record { id = k; folder = f; name = []; bytes = [] } in
    record {
      folders_ascend = tree.folders_ascend;
      files_ascend = pairs_push FileEntry (λ a b. a.id < b.id) s.files new tree.files_ascend (All-weaker (λ e. (1 ≤ e.id) × (e.id ≤ s.files_made)) (λ e. e.id < k) (λ e w. omega (arith, w.1)) s.files tree.files_made);
      folders_made = tree.folders_made;
      files_made = All-push FileEntry (λ e. (1 ≤ e.id) × (e.id ≤ k)) s.files new (All-weaker (λ e. (1 ≤ e.id) × (e.id ≤ s.files_made)) (λ e. (1 ≤ e.id) × (e.id ≤ k)) (λ e w. (w.0, omega (arith, w.1))) s.files tree.files_made) (omega arith, omega arith);
      root = tree.root;
      parents_stand = tree.parents_stand;
      ways_end = tree.ways_end;
      files_stand = All-push FileEntry (λ x. (q : FolderEntry) × (at s.folders x.folder ≡ Some q) × (length (way_up (length s.folders) s.folders x.folder) ≤ 64)) s.files new tree.files_stand (p, stands, few);
    }
