-- A tree stays one where a folder without children or a file is removed.
use Rattle.std.proofs.Common.{◌≡◌, ◌≢◌, ℕ, ◌<◌, ◌≤◌, Bool, true, false, not, ◌==◌, ◌||◌, length, Some, None, refl, sym, ◌∙◌, subst, arith}
use Rattle.std.specs.List.{All, list_any}
use Rattle.std.proofs.lemmas.Bool.{eqb-true, eq-eqb}
use Rattle.std.proofs.lemmas.List.Elements.{All-weaker}
use Rattle.std.proofs.lemmas.List.Kept.{AllPairs-filter}
use Rattle.cry_base.specs.Refusing.{has_child}
use Rattle.cry_base.specs.Store.{Store, FolderEntry, FileEntry, way_up, way_to_root, folder_entry}
use Rattle.cry_base.specs.Stepping.{without_folder, without_file}
use Rattle.folder_nodes.specs.Trees.{IsTree}
use Rattle.folder_nodes.proofs.Lookups.{All-found, All-kept, All-none}
use Rattle.folder_nodes.proofs.Treed.{rises, levels_are}
use Rattle.folder_nodes.proofs.Upward.{at, at_others, at_itself, others, Rises, rises_way, rises_like}

or_none : (a b : Bool) → (a || b) ≡ false → (a ≡ false) × (b ≡ false)
or_none true b e = absurd (cc)
or_none false b e = (refl, e)

apart_told : (a b : ℕ) → a == b ≡ false → a ≢ b
apart_told a b e = λ same. let u : a == b ≡ true = eq-eqb a b same in absurd (cc)

pub folder_removed : (s : Store) → IsTree s → (f : ℕ) → f ≢ 1 → has_child s f ≡ false → IsTree (without_folder s f)
unfolding folder_entry without_folder way_to_root has_child
folder_removed s tree f not_root childless =
    let xs = s.folders in
    let ys = others xs f in
    let none = or_none (list_any (λ (e : FolderEntry). e.parent == f) s.folders) (list_any (λ (e : FileEntry). e.folder == f) s.files) childless in
    let no_folder : All (λ (e : FolderEntry). e.parent == f ≡ false) xs = All-none FolderEntry (λ e. e.parent == f) xs none.0 in
    let no_file : All (λ (e : FileEntry). e.folder == f ≡ false) s.files = All-none FileEntry (λ e. e.folder == f) s.files none.1 in
    let like : (m g : ℕ) → g ≢ f → Rises xs m g → Rises ys m g =
    rises_like xs ys (λ g. g ≢ f) (λ g apart. at_others xs f g apart) (λ g e apart q. apart_told e.parent f (All-found FolderEntry (λ e. e.parent == f ≡ false) (λ e. e.id == g) xs e no_folder q)) in
    let ways : (g : ℕ) → (m : ℕ) × (m ≤ 65) × Rises ys m g = λ g.
    (elim (g == f) as (λ b. g == f ≡ b → (m : ℕ) × (m ≤ 65) × Rises ys m g) [
      | true ↦ λ t. (0, omega arith, subst (λ z. at ys z ≡ None) (sym (eqb-true g f t)) (at_itself xs f))
      | false ↦ λ t. let w = rises s tree g in (w.0, w.1, like w.0 g (apart_told g f t) w.2)
    ]) refl in
    record {
      folders_ascend = AllPairs-filter (λ (a b : FolderEntry). a.id < b.id) (λ e. not (e.id == f)) xs tree.folders_ascend;
      files_ascend = tree.files_ascend;
      folders_made = All-kept FolderEntry (λ e. (1 ≤ e.id) × (e.id ≤ s.folders_made)) (λ e. not (e.id == f)) xs tree.folders_made;
      files_made = tree.files_made;
      root = λ h. let w = tree.root h in (w.0, at_others xs f 1 (λ same. not_root (sym same)) ∙ w.1, w.2);
      parents_stand = All-kept FolderEntry (λ e. e.id ≢ 1 → (q : FolderEntry) × (at ys e.parent ≡ Some q)) (λ e. not (e.id == f)) xs
          (λ k d h apart. let q = tree.parents_stand k d h apart in (q.0, at_others xs f _ (apart_told _ f (no_folder k d h)) ∙ q.1));
      ways_end = λ g. let w = ways g in let e : length (way_up 66 ys g) ≡ w.0 = rises_way ys w.0 66 g w.2 (omega (arith, w.1)) in omega (arith, e, w.1);
      files_stand = All-weaker
          (λ x. ((q : FolderEntry) × (at xs x.folder ≡ Some q) × (length (way_up (length xs) xs x.folder) ≤ 64)) × (x.folder == f ≡ false))
          (λ x. (q : FolderEntry) × (at ys x.folder ≡ Some q) × (length (way_up (length ys) ys x.folder) ≤ 64))
          (λ x w.
          let m = rises s tree x.folder in
          let apart : x.folder ≢ f = apart_told x.folder f w.1 in
          let old : length (way_up (length xs) xs x.folder) ≡ m.0 = levels_are s m.0 x.folder m.2 in
          let young : length (way_up (length ys) ys x.folder) ≡ m.0 = levels_are (without_folder s f) m.0 x.folder (like m.0 x.folder apart m.2) in
          (w.0.0, at_others xs f x.folder apart ∙ w.0.1, omega (arith, old, young, w.0.2))) s.files
          (λ k d h. (tree.files_stand k d h, no_file k d h));
    }

pub file_removed : (s : Store) → IsTree s → (x : ℕ) → IsTree (without_file s x)
unfolding folder_entry without_file way_to_root
file_removed s tree x = record {
  folders_ascend = tree.folders_ascend;
  files_ascend = AllPairs-filter (λ (a b : FileEntry). a.id < b.id) (λ e. not (e.id == x)) s.files tree.files_ascend;
  folders_made = tree.folders_made;
  files_made = All-kept FileEntry (λ e. (1 ≤ e.id) × (e.id ≤ s.files_made)) (λ e. not (e.id == x)) s.files tree.files_made;
  root = tree.root;
  parents_stand = tree.parents_stand;
  ways_end = tree.ways_end;
  files_stand = All-kept FileEntry (λ e. (p : FolderEntry) × (at s.folders e.folder ≡ Some p) × (length (way_up (length s.folders) s.folders e.folder) ≤ 64)) (λ e. not (e.id == x)) s.files tree.files_stand;
}
