-- A tree of rows stands as what payloads make does: each folder some levels below the root.
use Rattle.std.proofs.Common.{◌≡◌, ◌≢◌, ℕ, zero, suc, ◌+◌, ◌<◌, ◌≤◌, ◌==◌, Some, List, [], ◌∷◌, map, length, inl, inr, ⊎_elim, refl, sym, ap, ◌∙◌, subst, arith}
use Rattle.std.proofs.lemmas.Bool.{cases_eq, eqb-true, eq-eqb}
use Rattle.std.specs.List.{range_with_len}
use Rattle.cry_base.specs.Clearances.{clear_base}
use Rattle.cry_base.specs.Limits.{most_depth}
use Rattle.cry_base.specs.Sets.{In}
use Rattle.cry_base.specs.Store.{Store, FolderEntry, FileEntry, GrantEntry, HolderEntry, folder_entry, no_store, way_to_root}
use Rattle.cry_base.proofs.Finding.{find-found, found-find}
use Rattle.cry_base.proofs.Members.{In-map}
use Rattle.folder_nodes.specs.Trees.{IsTree}
use Rattle.folder_nodes.proofs.Ascending.{All-in, same_ranked}
use Rattle.folder_nodes.proofs.Treed.{rises}
use Rattle.folder_nodes.proofs.Upward.{Rises}
use Rattle.grant_book.specs.Granted.{Granted, IsHolder}
use Rattle.move_plan.specs.Seen.{keyless, seen_store}
use Rattle.role_graph.specs.RightsByReach.{HasFolder, MayBeGranted}
use Rattle.public_fold.specs.Rooted.{IsRooted}
use Rattle.public_fold.specs.Tree.{AreNumbered, AtLevel}

-- what is found stands, and has the number
pub folder_found : (t : Store) (f : ℕ) (e : FolderEntry) → folder_entry t f ≡ Some e → In e t.folders × (e.id ≡ f)
unfolding folder_entry
folder_found t f e p = let w = find-found FolderEntry (λ x. x.id == f) t.folders e p in (w.0, eqb-true e.id f w.1)

-- another folder than the root has a parent that stands
parent_found : (t : Store) → IsTree t → (e : FolderEntry) → In e t.folders → e.id ≢ 1 → (p : FolderEntry) × (folder_entry t e.parent ≡ Some p)
parent_found t tree e i =
    All-in FolderEntry (λ (x : FolderEntry). x.id ≢ 1 → (p : FolderEntry) × (folder_entry t x.parent ≡ Some p)) t.folders e tree.parents_stand i

numbered_from_one : (t : Store) → IsTree t → (e : FolderEntry) → In e t.folders → 1 ≤ e.id
numbered_from_one t tree e i = (All-in FolderEntry (λ (x : FolderEntry). (1 ≤ x.id) × (x.id ≤ t.folders_made)) t.folders e tree.folders_made i).0

-- that parent isn't 0
parent_above : (t : Store) → IsTree t → (e : FolderEntry) → In e t.folders → e.id ≢ 1 → e.parent ≢ 0
parent_above t tree e i other z =
    let up = parent_found t tree e i other in
    let found = folder_found t e.parent up.0 up.1 in
    let low : 1 ≤ up.0.id = numbered_from_one t tree up.0 found.0 in
    let id : up.0.id ≡ e.parent = found.1 in
    absurd (omega (arith, low, id, z))

own_folder : (t : Store) → IsTree t → (a b : FolderEntry) → In a t.folders → In b t.folders → a.id ≡ b.id → a ≡ b
own_folder t tree a b i j e = same_ranked FolderEntry (λ (x : FolderEntry). x.id) t.folders tree.folders_ascend a b i j e

-- a folder whose way up ends stands some levels below the root
level_of : (t : Store) → IsTree t → 1 ≤ t.folders_made → (n f : ℕ) (e : FolderEntry) → Rises t.folders n f → folder_entry t f ≡ Some e → (k : ℕ) × AtLevel k t.folders f
unfolding folder_entry
level_of t tree made zero f e r p = absurd (cc)
level_of t tree made (suc n) f e r p =
    let found = folder_found t f e p in
    let same : r.0 ≡ e = cc in
    ⊎_elim
    (λ (one : e.id ≡ 1).
    let top = tree.root made in
    let there = folder_found t 1 top.0 top.1 in
    let is : e ≡ top.0 = own_folder t tree e top.0 found.0 there.0 (one ∙ sym there.1) in
    (0, (e, found.0, found.1, ap (λ (x : FolderEntry). x.parent) is ∙ top.2)))
    (λ (other : e.id ≢ 1).
    let up = parent_found t tree e found.0 other in
    let rest = level_of t tree made n e.parent up.0 (subst (λ (x : FolderEntry). Rises t.folders n x.parent) same r.2) up.1 in
    (suc rest.0, (e, found.0, found.1, parent_above t tree e found.0 other, rest.1)))
    (cases_eq e.id 1)

-- a folder that stands is found
folder_own : (t : Store) → IsTree t → (e : FolderEntry) → In e t.folders → folder_entry t e.id ≡ Some e
unfolding folder_entry
folder_own t tree e i =
    let w = found-find FolderEntry (λ x. x.id == e.id) e t.folders i (eq-eqb e.id e.id refl) in
    let told = find-found FolderEntry (λ x. x.id == e.id) t.folders w.0 w.1 in
    w.1 ∙ ap (λ x. Some x) (own_folder t tree w.0 e told.0 i (eqb-true w.0.id e.id told.1))

numbered : (t : Store) → IsTree t → AreNumbered t.folders
numbered t tree = record {
  own = own_folder t tree;
  no_zero = λ e i z. (let low : 1 ≤ e.id = numbered_from_one t tree e i in absurd (omega (arith, low, z)));
  one_root = λ e i z. ⊎_elim (λ (one : e.id ≡ 1). one) (λ (other : e.id ≢ 1). absurd (parent_above t tree e i other z)) (cases_eq e.id 1);
}

-- the holders ever made are those from 1 on
pub in_range : (a n h : ℕ) → a ≤ h → h < a + n → In h (range_with_len a n)
in_range a zero h low high = absurd (omega (arith, low, high))
in_range a (suc n) h low high = ⊎_elim
    (λ (here : h ≡ a). inl here)
    (λ (other : h ≢ a). inr (in_range (a + 1) n h (omega (arith, low, other)) (omega (arith, high))))
    (cases_eq h a)

pub range_in : (a n h : ℕ) → In h (range_with_len a n) → (a ≤ h) × (h < a + n)
range_in a zero h i = absurd i
range_in a (suc n) h i = ⊎_elim
    (λ (here : h ≡ a). (omega (arith, here), omega (arith, here)))
    (λ (later : In h (range_with_len (a + 1) n)). let told = range_in (a + 1) n h later in let low : a + 1 ≤ h = told.0 in let high : h < a + 1 + n = told.1 in (omega (arith, low), omega (arith, high)))
    i

pub holder_made : (t : Store) (g : Granted) (h : ℕ) → IsHolder g.checks h → (e : HolderEntry) × In e (seen_store t g).holders × (e.number ≡ h)
holder_made t g h is =
    let n = length g.checks in
    let low : 1 ≤ h = is.0 in
    let high : h ≤ n = is.1 in
    (keyless h, (In-map ℕ HolderEntry keyless (keyless h) (range_with_len 1 n)).1 (h, in_range 1 n h low (omega (arith, high)), refl), refl)

-- the folder of a file stands
file_in : (t : Store) → IsTree t → (x : FileEntry) → In x t.files → HasFolder t x.folder
file_in t tree x i =
    let w = All-in FileEntry (λ (e : FileEntry). (p : FolderEntry) × (folder_entry t e.folder ≡ Some p) × (length (way_to_root t e.folder) ≤ most_depth)) t.files x tree.files_stand i in
    let found = folder_found t x.folder w.0 w.1 in
    (w.0, found.0, found.1)

-- a tree and grants are rooted, where a folder was made
pub tree_rooted : (t : Store) (g : Granted) → IsTree t → 1 ≤ t.folders_made → t.folders_made < clear_base → t.files_made < clear_base
    → ((x : GrantEntry) → In x g.pairs → MayBeGranted (seen_store t g) x.folder) → ((x : GrantEntry) → In x g.pairs → IsHolder g.checks x.holder) → IsRooted (seen_store t g)
tree_rooted t g tree made folders files granted held = record {
  counted = record {
    each_folder = λ e i. (All-in FolderEntry (λ (x : FolderEntry). (1 ≤ x.id) × (x.id ≤ t.folders_made)) t.folders e tree.folders_made i).1;
    each_file = λ e i. (All-in FileEntry (λ (x : FileEntry). (1 ≤ x.id) × (x.id ≤ t.files_made)) t.files e tree.files_made i).1;
    each_holder = λ e i.
        let w = (In-map ℕ HolderEntry keyless e (range_with_len 1 (length g.checks))).0 i in
        let high : w.0 < 1 + length g.checks = (range_in 1 (length g.checks) w.0 w.1).1 in
        let is : e.number ≡ w.0 = ap (λ (x : HolderEntry). x.number) w.2 in
        omega (arith, high, is);
  };
  numbered = numbered t tree;
  own_file = λ a b i j e. same_ranked FileEntry (λ (x : FileEntry). x.id) t.files tree.files_ascend a b i j e;
  root_stands = (let top = tree.root made in let there = folder_found t 1 top.0 top.1 in (top.0, there.0, there.1, top.2));
  folder_level = λ e i. (let way = rises t tree e.id in level_of t tree made way.0 e.id e way.2 (folder_own t tree e i));
  file_folder = λ x i. file_in t tree x i;
  granted_stands = granted;
  held = λ x i. holder_made t g x.holder (held x i);
  folders_below = folders;
  files_below = files;
}

-- where nothing was made nothing stands
none_in : (X : Type 0) (xs : List X) → ((x : X) → In x xs → ⊥) → xs ≡ []
none_in X [] out = refl
none_in X (x ∷ xs) out = absurd (out x (inl refl))

pub tree_unmade : (t : Store) (g : Granted) → IsTree t → t.folders_made ≡ 0 → t.files_made ≡ 0 → length g.checks ≡ 0
    → ((x : GrantEntry) → In x g.pairs → IsHolder g.checks x.holder) → seen_store t g ≡ no_store
unfolding no_store
tree_unmade t g tree folders files checks held =
    let no_folder : t.folders ≡ [] = none_in FolderEntry t.folders (λ e i.
    let w = All-in FolderEntry (λ (x : FolderEntry). (1 ≤ x.id) × (x.id ≤ t.folders_made)) t.folders e tree.folders_made i in
    let low : 1 ≤ e.id = w.0 in let high : e.id ≤ t.folders_made = w.1 in omega (arith, low, high, folders)) in
    let no_file : t.files ≡ [] = none_in FileEntry t.files (λ e i.
    let w = All-in FileEntry (λ (x : FileEntry). (1 ≤ x.id) × (x.id ≤ t.files_made)) t.files e tree.files_made i in
    let low : 1 ≤ e.id = w.0 in let high : e.id ≤ t.files_made = w.1 in omega (arith, low, high, files)) in
    let no_grant : g.pairs ≡ [] = none_in GrantEntry g.pairs (λ x i.
    let w = held x i in
    let low : 1 ≤ x.holder = w.0 in let high : x.holder ≤ length g.checks = w.1 in omega (arith, low, high, checks)) in
    λ k. record {
      folders = no_folder k;
      files = no_file k;
      holders = map keyless (range_with_len 1 (checks k));
      grants = no_grant k;
      folders_made = folders k;
      files_made = files k;
      holders_made = checks k;
    }
