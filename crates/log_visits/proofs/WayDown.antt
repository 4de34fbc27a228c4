-- The way from the root down to a folder, and the names along it.
use Rattle.std.proofs.Common.{◌≡◌, ◌≢◌, ℕ, suc, Option, ◌+◌, ◌≤◌, ◌-◌, ◌==◌, true, false, List, [], ◌∷◌, ◌++◌, length, drop, map, None, Some, refl, sym, ap, subst, ◌∙◌, arith, append_assoc}
use Rattle.std.specs.Prelude.{if◌then◌else◌, is_some}
use Rattle.std.specs.List.{flat_map}
use Rattle.std.proofs.lemmas.Bool.{eqb-true}
use Rattle.std.proofs.lemmas.List.{append-nil, length-map, map-append}
use Rattle.cry_base.specs.Naming.{spell_path}
use Rattle.cry_base.specs.Store.{Store, FolderEntry, backwards, depth_of, folder_entry, folder_node, folder_names, way_to_root, way_up}
use Rattle.cry_base.specs.declared.ids.FolderId.{FolderId}
use Rattle.folder_nodes.specs.Looking.{parent_id, some_folder}
use Rattle.folder_nodes.specs.Spelling.{joined}
use Rattle.folder_nodes.specs.Titles.{Titles, name_in, title_at, tree_store}
use Rattle.folder_nodes.specs.Trees.{IsTree}
use Rattle.folder_nodes.proofs.Added.{nothing_at_zero}
use Rattle.folder_nodes.proofs.Climbing.{level_on, levels_few}
use Rattle.folder_nodes.proofs.Downward.{entry_id}
use Rattle.folder_nodes.proofs.Named.{named_folder, up_named}
use Rattle.folder_nodes.proofs.Rowed.{some_of}
use Rattle.folder_nodes.proofs.Slashes.{joined_push, spelled_joined}
use Rattle.folder_nodes.proofs.Treed.{depth_told, way_off, way_on}
use Rattle.role_graph.proofs.Adding.{flat_map_map, map_map}

abbrev pub number : FolderId → ℕ
number x = x.0

abbrev pub ids_up : Store → ℕ → List ℕ
ids_up s f = map (λ (e : FolderEntry). e.id) (way_to_root s f)

-- ---- the steps up

-- the folders so far are those below here on the way to f, and so many are left at most
pub record WayTo (s : Store) (f : ℕ) (way : List FolderId) (here n : ℕ) : Type 0 where
  pub so_far : backwards (ids_up s f) ≡ backwards (ids_up s here) ++ map number way
  pub left : n + length (way_to_root s here) ≤ 65

pub way_start : (s : Store) → IsTree s → (f : ℕ) (way : List FolderId) → way ≡ [] → WayTo s f way f 0
way_start s tree f way none = record {
  so_far = sym (append-nil (backwards (ids_up s f))) ∙ ap (λ w. backwards (ids_up s f) ++ map number w) (sym none);
  left = let few : length (way_to_root s f) ≤ 65 = levels_few s tree f in omega (arith, few);
}

one_more : (s : Store) → IsTree s → (here : FolderId) (way : List FolderId) (e : FolderEntry) → folder_entry s here.0 ≡ Some e →
    backwards (ids_up s here.0) ++ map number way ≡ backwards (ids_up s e.parent) ++ map number (here ∷ way)
unfolding backwards
one_more s tree here way e p =
    ap (λ w. backwards (map (λ (x : FolderEntry). x.id) w) ++ map number way) (way_on s tree here.0 e p)
    ∙ append_assoc (backwards (ids_up s e.parent)) (e.id ∷ []) (map number way)
    ∙ ap (λ k. backwards (ids_up s e.parent) ++ (k ∷ map number way)) (entry_id s here.0 e p)

stands : (s : Store) (here : ℕ) → true ≡ is_some (folder_entry s here) → (e : FolderEntry) × (folder_entry s here ≡ Some e)
stands s here t = some_of FolderEntry (folder_entry s here) (sym t)

number_up : (k : ℕ) (parent : FolderId) → Some parent ≡ some_folder k → parent.0 ≡ k
number_up k parent is =
    (elim (k == 0) as (λ b. Some parent ≡ (if b then None else Some (record { 0 = k })) → parent.0 ≡ k) [
      | true ↦ λ e. absurd cc
      | false ↦ λ e. let same : parent ≡ (let x : FolderId = record { 0 = k } in x) = cc in ap number same
    ]) is

none_up : (k : ℕ) → None ≡ some_folder k → k ≡ 0
none_up k is =
    (elim (k == 0) as (λ b. k == 0 ≡ b → None ≡ (if b then None else Some (let x : FolderId = record { 0 = k } in x)) → k ≡ 0) [
      | true ↦ λ t e. eqb-true k 0 t
      | false ↦ λ t e. absurd cc
    ]) refl is

pub way_climbs : (s : Store) → IsTree s → (f : ℕ) (way new : List FolderId) (here parent : FolderId) (n : ℕ) → WayTo s f way here.0 n → true ≡ is_some (folder_entry s here.0) →
    new ≡ here ∷ way → Some parent ≡ parent_id (folder_entry s here.0) → WayTo s f new parent.0 (n + 1)
way_climbs s tree f way new here parent n so there is up =
    let w = stands s here.0 there in
    let e = w.0 in
    let level : length (way_to_root s here.0) ≡ suc (length (way_to_root s e.parent)) = level_on s tree here.0 e w.1 in
    let at : parent.0 ≡ e.parent = number_up e.parent parent (up ∙ ap parent_id w.1) in
    subst (λ k. WayTo s f new k (n + 1)) (sym at) (record {
      so_far = so.so_far ∙ one_more s tree here way e w.1 ∙ ap (λ l. backwards (ids_up s e.parent) ++ map number l) (sym is);
      left = omega (arith, so.left, level);
    })

-- no folder is left above the root
pub way_tops : (s : Store) → IsTree s → (f : ℕ) (way new : List FolderId) (here : FolderId) (n : ℕ) → WayTo s f way here.0 n → true ≡ is_some (folder_entry s here.0) →
    new ≡ here ∷ way → None ≡ parent_id (folder_entry s here.0) → map number new ≡ backwards (ids_up s f)
unfolding backwards
way_tops s tree f way new here n so there is up =
    let w = stands s here.0 there in
    let e = w.0 in
    let zero_up : e.parent ≡ 0 = none_up e.parent (up ∙ ap parent_id w.1) in
    let above : way_to_root s e.parent ≡ [] = ap (way_to_root s) zero_up ∙ way_off s 0 (nothing_at_zero s tree) in
    ap (map number) is ∙ sym (so.so_far ∙ one_more s tree here way e w.1 ∙ ap (λ l. backwards (map (λ (x : FolderEntry). x.id) l) ++ map number (here ∷ way)) above)

-- nothing stands here
pub way_ends : (s : Store) (f : ℕ) (way : List FolderId) (here n : ℕ) → WayTo s f way here n → way_to_root s here ≡ [] → map number way ≡ backwards (ids_up s f)
unfolding backwards
way_ends s f way here n so none = sym (so.so_far ∙ ap (λ l. backwards (map (λ (x : FolderEntry). x.id) l) ++ map number way) none)

pub nothing_up : (s : Store) (here : ℕ) → false ≡ is_some (folder_entry s here) → way_to_root s here ≡ []
nothing_up s here t = way_off s here (none_of (folder_entry s here) t)
  where
    none_of : (o : Option FolderEntry) → false ≡ is_some o → o ≡ None
    none_of None t = refl
    none_of (Some e) t = absurd cc

pub way_over : (s : Store) (f : ℕ) (way : List FolderId) (here n : ℕ) → WayTo s f way here n → 65 ≤ n → map number way ≡ backwards (ids_up s f)
way_over s f way here n so full = way_ends s f way here n so (empty (way_to_root s here) (omega (arith, so.left, full)))
  where
    empty : (l : List FolderEntry) → length l ≤ 0 → l ≡ []
    empty [] h = refl
    empty (x ∷ xs) h = absurd (omega (arith, h))

-- ---- the names

backwards_map : {X Y : Type 0} (g : X → Y) (xs : List X) → backwards (map g xs) ≡ map g (backwards xs)
unfolding backwards
backwards_map g [] = refl
backwards_map g (x ∷ xs) = ap (λ l. l ++ g x ∷ []) (backwards_map g xs) ∙ sym (map-append g (backwards xs) (x ∷ []))

way_named : (s : Store) (n : Titles) (f : ℕ) → way_to_root (tree_store s n) f ≡ map (named_folder n) (way_to_root s f)
unfolding way_to_root tree_store
way_named s n f =
    let same : length (map (named_folder n) s.folders) ≡ length s.folders = simp length-map in
    ap (λ k. way_up k (map (named_folder n) s.folders) f) same ∙ up_named n (length s.folders) s.folders f

abbrev pub name_at : Titles → ℕ → List ℕ
name_at n i = name_in (title_at n.folders i)

-- the names down to a folder are those of the folders on the way, without the root's
pub names_down : (t : Store) (n : Titles) (f : ℕ) (way : List FolderId) → map number way ≡ backwards (ids_up t f) → folder_names (tree_store t n) f ≡ drop 1 (map (λ (x : FolderId). name_at n x.0) way)
unfolding folder_names
names_down t n f way is =
    let up = way_to_root t f in
    ap (λ l. drop 1 (backwards (map (λ (e : FolderEntry). e.name) l))) (way_named t n f)
    ∙ ap (λ l. drop 1 (backwards l)) (map_map FolderEntry FolderEntry (List ℕ) (λ (e : FolderEntry). e.name) (named_folder n) up ∙ sym (map_map FolderEntry ℕ (List ℕ) (name_at n) (λ (e : FolderEntry). e.id) up))
    ∙ ap (drop 1) (backwards_map (name_at n) (ids_up t f) ∙ ap (map (name_at n)) (sym is) ∙ map_map FolderId ℕ (List ℕ) (name_at n) number way)

pub joined_below : (t : Store) (n : Titles) (f : ℕ) (way below : List FolderId) (root : FolderId) → map number way ≡ backwards (ids_up t f) → way ≡ root ∷ below →
    flat_map (λ (x : FolderId). 47 ∷ name_at n x.0) below ≡ joined (folder_names (tree_store t n) f)
unfolding joined
joined_below t n f way below root is parts =
    sym (ap (flat_map (λ m. 47 ∷ m)) (names_down t n f way is ∙ ap (λ l. drop 1 (map (λ (x : FolderId). name_at n x.0) l)) parts)
    ∙ flat_map_map FolderId (List ℕ) ℕ (λ m. 47 ∷ m) (λ (x : FolderId). name_at n x.0) below)

pub joined_none : (t : Store) (n : Titles) (f : ℕ) (way : List FolderId) → map number way ≡ backwards (ids_up t f) → way ≡ [] → joined (folder_names (tree_store t n) f) ≡ []
unfolding joined
joined_none t n f way is none = ap (flat_map (λ m. 47 ∷ m)) (names_down t n f way is ∙ ap (λ l. drop 1 (map (λ (x : FolderId). name_at n x.0) l)) none)

-- ---- paths

pub path_alone : (names : List (List ℕ)) → joined names ≡ [] → 47 ∷ [] ≡ spell_path names
unfolding spell_path joined
path_alone [] none = refl
path_alone (x ∷ xs) none = absurd cc

pub path_joined : (names : List (List ℕ)) → joined names ≢ [] → joined names ≡ spell_path names
unfolding spell_path joined
path_joined [] some = absurd (some refl)
path_joined (x ∷ xs) some = refl

pub path_with : (names : List (List ℕ)) (name : List ℕ) → joined names ++ 47 ∷ name ≡ spell_path (names ++ name ∷ [])
path_with names name = sym (joined_push names name) ∙ sym (spelled_joined (names ++ name ∷ []) (some names))
  where
    some : (xs : List (List ℕ)) → xs ++ name ∷ [] ≢ []
    some [] = λ q. cc
    some (x ∷ xs) = λ q. cc

pub nothing_of : {X : Type 0} (xs : List X) → length xs ≡ 0 → xs ≡ []
nothing_of [] none = refl
nothing_of (x ∷ xs) none = absurd (omega (arith, none))

-- what is added where there is no folder on the way
pub nothing_added : (t : Store) (n : Titles) (f : ℕ) (way : List FolderId) (text : List ℕ) → map number way ≡ backwards (ids_up t f) → length way ≡ 0 → text ≡ text ++ joined (folder_names (tree_store t n) f)
nothing_added t n f way text is none = sym (append-nil text) ∙ ap (λ l. text ++ l) (sym (joined_none t n f way is (nothing_of way none)))

pub file_built : (names : List (List ℕ)) (name first second third fourth : List ℕ) → first ≡ [] → second ≡ first ++ joined names → third ≡ second ++ 47 ∷ [] → fourth ≡ third ++ name →
    fourth ≡ spell_path (names ++ name ∷ [])
file_built names name first second third fourth e1 e2 e3 e4 =
    e4 ∙ ap (λ l. l ++ name) (e3 ∙ ap (λ l. l ++ 47 ∷ []) (e2 ∙ ap (λ l. l ++ joined names) e1)) ∙ append_assoc (joined names) (47 ∷ []) name ∙ path_with names name

pub root_built : (names : List (List ℕ)) (first second third : List ℕ) → first ≡ [] → second ≡ first ++ joined names → second ≡ [] → third ≡ second ++ 47 ∷ [] → third ≡ spell_path names
root_built names first second third e1 e2 none e3 = e3 ∙ ap (λ l. l ++ 47 ∷ []) none ∙ path_alone names (sym (e2 ∙ ap (λ l. l ++ joined names) e1) ∙ none)

pub folder_built : (names : List (List ℕ)) (first second : List ℕ) → first ≡ [] → second ≡ first ++ joined names → second ≢ [] → second ≡ spell_path names
folder_built names first second e1 e2 some =
    let is : second ≡ joined names = e2 ∙ ap (λ l. l ++ joined names) e1 in
    is ∙ path_joined names (λ none. some (is ∙ none))

pub absent_depth : (s : Store) (f : ℕ) → false ≡ is_some (folder_entry s f) → 0 ≡ depth_of s (folder_node f)
absent_depth s f t =
    let told : depth_of s (folder_node f) ≡ length (way_to_root s f) - 1 = depth_told s f in
    let none : length (way_to_root s f) ≡ 0 = ap length (nothing_up s f t) in
    omega (arith, told, none)
