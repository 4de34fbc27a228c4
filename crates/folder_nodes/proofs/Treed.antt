-- What a tree's ways up are, and what they tell of depths.
use Rattle.std.proofs.Common.{◌≡◌, ℕ, zero, suc, ◌+◌, ◌-◌, ◌≤◌, false, ◌==◌, ◌||◌, List, [], ◌∷◌, length, map, drop, Option, Some, None, refl, ap, ◌∙◌, arith, length-append, length-drop}
use Rattle.std.proofs.lemmas.List.{length-map}
use Rattle.std.specs.List.{list_any}
use Rattle.std.specs.Option.{unwrap_or, option_map}
use Rattle.cry_base.specs.Store.{Store, FolderEntry, FileEntry, backwards, way_up, way_to_root, folder_entry, file_entry, folder_node, file_node, folder_names, file_names, node_names, depth_of, is_within}
use Rattle.folder_nodes.specs.Trees.{IsTree}
use Rattle.folder_nodes.proofs.Upward.{Rises, rises_way, rises_fuel, rises_few, way_rises, way_none, way_some}

-- each way up ends
pub rises : (s : Store) → IsTree s → (f : ℕ) → (n : ℕ) × (n ≤ 65) × Rises s.folders n f
rises s tree f = way_rises s.folders 65 f (tree.ways_end f)

pub levels_are : (s : Store) (n f : ℕ) → Rises s.folders n f → length (way_to_root s f) ≡ n
unfolding way_to_root
levels_are s n f r = rises_way s.folders n (length s.folders) f r (rises_few n s.folders f r)

-- the way of a folder goes on with that of its parent
pub way_on : (s : Store) → IsTree s → (f : ℕ) (e : FolderEntry) → folder_entry s f ≡ Some e → way_to_root s f ≡ e ∷ way_to_root s e.parent
unfolding way_to_root folder_entry
way_on s tree f e p =
    let w = rises s tree f in go w.0 w.2
  where
    go : (n : ℕ) → Rises s.folders n f → way_up (length s.folders) s.folders f ≡ e ∷ way_up (length s.folders) s.folders e.parent
    go zero r = absurd (cc)
    go (suc n) r =
        let few : suc n ≤ length s.folders = rises_few (suc n) s.folders f r in
        let more : suc n ≤ suc (length s.folders) = omega (arith, few) in
        rises_fuel s.folders (suc n) (length s.folders) (suc (length s.folders)) f r few more ∙ way_some s.folders (length s.folders) f e p

-- and there is none where nothing stands
pub way_off : (s : Store) (f : ℕ) → folder_entry s f ≡ None → way_to_root s f ≡ []
unfolding way_to_root folder_entry
way_off s f p = way_none s.folders (length s.folders) f p

length-backwards : (X : Type 0) (xs : List X) → length (backwards xs) ≡ length xs
unfolding backwards
length-backwards X [] = refl
length-backwards X (x ∷ xs) = length-append (backwards xs) (x ∷ []) ∙ (let e : length (backwards xs) ≡ length xs = length-backwards X xs in omega (arith, e))

names_counted : (s : Store) (f : ℕ) → length (folder_names s f) ≡ length (way_to_root s f) - 1
unfolding folder_names
names_counted s f =
    let l = map (λ (e : FolderEntry). e.name) (way_to_root s f) in
    let a : length (drop 1 (backwards l)) ≡ length (backwards l) - 1 = simp length-drop in
    a ∙ ap (λ n. n - 1) (length-backwards (List ℕ) l ∙ simp length-map)

-- a folder's depth: the folders on its way up, without itself
pub depth_told : (s : Store) (f : ℕ) → depth_of s (folder_node f) ≡ length (way_to_root s f) - 1
unfolding depth_of node_names folder_node
depth_told s f = names_counted s f

-- a file is one deeper than its folder
pub file_depth_told : (s : Store) (x : ℕ) (e : FileEntry) → file_entry s x ≡ Some e → depth_of s (file_node x) ≡ length (way_to_root s e.folder) - 1 + 1
unfolding depth_of node_names file_node file_names
file_depth_told s x e p =
    ap (λ (o : Option FileEntry). length (unwrap_or (option_map (file_names s) o) [])) p
    ∙ length-append (folder_names s e.folder) (e.name ∷ [])
    ∙ ap (λ n. n + 1) (names_counted s e.folder)

-- a folder that stands is within itself and within what its parent is within
pub within_on : (s : Store) → IsTree s → (f g : ℕ) (e : FolderEntry) → folder_entry s f ≡ Some e → is_within s f g ≡ (e.id == g || is_within s e.parent g)
unfolding is_within
within_on s tree f g e p = ap (λ l. list_any (λ (z : FolderEntry). z.id == g) l) (way_on s tree f e p)

pub within_off : (s : Store) (f g : ℕ) → folder_entry s f ≡ None → is_within s f g ≡ false
unfolding is_within
within_off s f g p = ap (λ l. list_any (λ (z : FolderEntry). z.id == g) l) (way_off s f p)
