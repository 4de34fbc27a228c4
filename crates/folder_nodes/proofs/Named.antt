-- What looks at no name is the same in a tree with names and in the tree without.
use Rattle.std.proofs.Common.{◌≡◌, ℕ, zero, suc, ◌+◌, ◌-◌, max, Bool, false, cond, ◌==◌, ◌||◌, List, [], ◌∷◌, ◌++◌, length, map, find, Option, Some, None, refl, sym, ap, ◌∙◌}
use Rattle.std.specs.Prelude.{is_some}
use Rattle.std.specs.List.{list_any, fold}
use Rattle.std.specs.Option.{option_map, unwrap_or}
use Rattle.std.proofs.lemmas.List.{length-map}
use Rattle.cry_base.specs.Refusing.{has_child, is_node_within, deepest, height_of}
use Rattle.cry_base.specs.Store.{Store, FolderEntry, FileEntry, and_above, way_up, way_to_root, folder_entry, file_entry, folder_node, file_node, file_names, node_names, nodes_of, depth_of, is_within}
use Rattle.cry_base.specs.declared.roles.Node.{Node}
use Rattle.cry_base.specs.declared.roles.Node.TheVariants.{Folder, File}
use Rattle.folder_nodes.specs.Titles.{Titles, title_at, name_in, bytes_in, tree_store}
use Rattle.folder_nodes.proofs.Heights.{map_twice}
use Rattle.folder_nodes.proofs.Lookups.{find-map}
use Rattle.folder_nodes.proofs.Treed.{depth_told, file_depth_told}

-- an entry with its name
abbrev pub named_folder : Titles → FolderEntry → FolderEntry
named_folder n e = record e { name = name_in (title_at n.folders e.id) }

abbrev pub named_file : Titles → FileEntry → FileEntry
named_file n e = record e { name = name_in (title_at n.files e.id); bytes = bytes_in (title_at n.files e.id) }

any-map : (X Y : Type 0) (g : X → Y) (p : Y → Bool) (xs : List X) → list_any p (map g xs) ≡ list_any (λ x. p (g x)) xs
any-map X Y g p [] = refl
any-map X Y g p (x ∷ xs) = ap (λ b. p (g x) || b) (any-map X Y g p xs)

pub map_alike : (X Z : Type 0) (v w : X → Z) → ((x : X) → v x ≡ w x) → (xs : List X) → map v xs ≡ map w xs
map_alike X Z v w same [] = refl
map_alike X Z v w same (x ∷ xs) = ap (λ z. z ∷ map v xs) (same x) ∙ ap (λ l. w x ∷ l) (map_alike X Z v w same xs)

some-map : (X Y : Type 0) (h : X → Y) (o : Option X) → is_some (option_map h o) ≡ is_some o
some-map X Y h None = refl
some-map X Y h (Some x) = refl

pub folder_named : (s : Store) (n : Titles) (f : ℕ) → folder_entry (tree_store s n) f ≡ option_map (named_folder n) (folder_entry s f)
unfolding folder_entry tree_store
folder_named s n f = find-map FolderEntry FolderEntry (named_folder n) (λ e. e.id == f) s.folders

pub file_named : (s : Store) (n : Titles) (x : ℕ) → file_entry (tree_store s n) x ≡ option_map (named_file n) (file_entry s x)
unfolding file_entry tree_store
file_named s n x = find-map FileEntry FileEntry (named_file n) (λ e. e.id == x) s.files

pub folder_named_stands : (s : Store) (n : Titles) (f : ℕ) → is_some (folder_entry (tree_store s n) f) ≡ is_some (folder_entry s f)
folder_named_stands s n f = ap (λ (o : Option FolderEntry). is_some o) (folder_named s n f) ∙ some-map FolderEntry FolderEntry (named_folder n) (folder_entry s f)

-- the ways up
above_named : (n : Titles) (up down : FolderEntry → List FolderEntry) → ((e : FolderEntry) → up (named_folder n e) ≡ map (named_folder n) (down e)) → (o : Option FolderEntry) → and_above (option_map (named_folder n) o) up ≡ map (named_folder n) (and_above o down)
unfolding and_above
above_named n up down same None = refl
above_named n up down same (Some e) = ap (λ l. named_folder n e ∷ l) (same e)

pub up_named : (n : Titles) (k : ℕ) (xs : List FolderEntry) (f : ℕ) → way_up k (map (named_folder n) xs) f ≡ map (named_folder n) (way_up k xs f)
unfolding way_up
up_named n zero xs f = refl
up_named n (suc k) xs f =
    ap (λ o. and_above o (λ e. way_up k (map (named_folder n) xs) e.parent)) (find-map FolderEntry FolderEntry (named_folder n) (λ e. e.id == f) xs)
    ∙ above_named n (λ e. way_up k (map (named_folder n) xs) e.parent) (λ e. way_up k xs e.parent) (λ e. up_named n k xs e.parent) (find (λ e. e.id == f) xs)

way_named : (s : Store) (n : Titles) (f : ℕ) → way_to_root (tree_store s n) f ≡ map (named_folder n) (way_to_root s f)
unfolding way_to_root tree_store
way_named s n f =
    let same : length (map (named_folder n) s.folders) ≡ length s.folders = simp length-map in
    ap (λ k. way_up k (map (named_folder n) s.folders) f) same ∙ up_named n (length s.folders) s.folders f

pub levels_named : (s : Store) (n : Titles) (f : ℕ) → length (way_to_root (tree_store s n) f) ≡ length (way_to_root s f)
levels_named s n f =
    let same : length (map (named_folder n) (way_to_root s f)) ≡ length (way_to_root s f) = simp length-map in
    ap length (way_named s n f) ∙ same

pub within_named : (s : Store) (n : Titles) (f a : ℕ) → is_within (tree_store s n) f a ≡ is_within s f a
unfolding is_within
within_named s n f a =
    ap (λ l. list_any (λ (e : FolderEntry). e.id == a) l) (way_named s n f)
    ∙ any-map FolderEntry FolderEntry (named_folder n) (λ e. e.id == a) (way_to_root s f)

pub depth_named : (s : Store) (n : Titles) (f : ℕ) → depth_of (tree_store s n) (folder_node f) ≡ depth_of s (folder_node f)
depth_named s n f = depth_told (tree_store s n) f ∙ ap (λ k. k - 1) (levels_named s n f) ∙ sym (depth_told s f)

pub child_named : (s : Store) (n : Titles) (f : ℕ) → has_child (tree_store s n) f ≡ has_child s f
unfolding has_child tree_store
child_named s n f =
    ap (λ b. b || list_any (λ (e : FileEntry). e.folder == f) (map (named_file n) s.files)) (any-map FolderEntry FolderEntry (named_folder n) (λ e. e.parent == f) s.folders)
    ∙ ap (λ b. list_any (λ (e : FolderEntry). e.parent == f) s.folders || b) (any-map FileEntry FileEntry (named_file n) (λ e. e.folder == f) s.files)

-- the depths of files
no_file_depth : (s : Store) (x : ℕ) → file_entry s x ≡ None → depth_of s (file_node x) ≡ 0
unfolding depth_of node_names file_node
no_file_depth s x p = ap (λ (o : Option FileEntry). length (unwrap_or (option_map (file_names s) o) [])) p

file_depth_named : (s : Store) (n : Titles) (x : ℕ) → depth_of (tree_store s n) (file_node x) ≡ depth_of s (file_node x)
file_depth_named s n x =
    (elim (file_entry s x) as (λ o. file_entry s x ≡ o → depth_of (tree_store s n) (file_node x) ≡ depth_of s (file_node x)) [
      | None ↦ λ p. no_file_depth (tree_store s n) x (file_named s n x ∙ ap (option_map (named_file n)) p) ∙ sym (no_file_depth s x p)
      | Some e ↦ λ p.
          file_depth_told (tree_store s n) x (named_file n e) (file_named s n x ∙ ap (option_map (named_file n)) p)
          ∙ ap (λ k. k - 1 + 1) (levels_named s n e.folder)
          ∙ sym (file_depth_told s x e p)
    ]) refl

node_depth_named : (s : Store) (n : Titles) (node : Node) → depth_of (tree_store s n) node ≡ depth_of s node
unfolding folder_node file_node
node_depth_named s n (Folder f) = depth_named s n f.0
node_depth_named s n (File x) = file_depth_named s n x.0

abbrev is_file_within : Store → ℕ → Option FileEntry → Bool
is_file_within s f None = false
is_file_within s f (Some e) = is_within s e.folder f

file_within_named : (s : Store) (n : Titles) (f : ℕ) (o : Option FileEntry) → is_file_within (tree_store s n) f (option_map (named_file n) o) ≡ is_file_within s f o
file_within_named s n f None = refl
file_within_named s n f (Some e) = within_named s n e.folder f

file_within_told : (s : Store) (f : ℕ) (x : ℕ) → is_node_within s f (file_node x) ≡ is_file_within s f (file_entry s x)
unfolding is_node_within file_node
file_within_told s f x =
    elim (file_entry s x) as (λ o. elim o as (λ _. Bool) [ None ↦ false | Some e ↦ is_within s e.folder f ] ≡ is_file_within s f o) [ None ↦ refl | Some e ↦ refl ]

node_within_named : (s : Store) (n : Titles) (f : ℕ) (node : Node) → is_node_within (tree_store s n) f node ≡ is_node_within s f node
unfolding is_node_within file_node
node_within_named s n f (Folder g) = within_named s n g.0 f
node_within_named s n f (File x) =
    file_within_told (tree_store s n) f x.0 ∙ ap (is_file_within (tree_store s n) f) (file_named s n x.0)
    ∙ file_within_named s n f (file_entry s x.0) ∙ sym (file_within_told s f x.0)

-- the deepest nodes
pub nodes_named : (s : Store) (n : Titles) → nodes_of (tree_store s n) ≡ nodes_of s
unfolding nodes_of tree_store
nodes_named s n =
    ap (λ l. l ++ map (λ (e : FileEntry). file_node e.id) (map (named_file n) s.files)) (map_twice FolderEntry FolderEntry Node (λ e. folder_node e.id) (named_folder n) s.folders)
    ∙ ap (λ l. map (λ (e : FolderEntry). folder_node e.id) s.folders ++ l) (map_twice FileEntry FileEntry Node (λ e. file_node e.id) (named_file n) s.files)

deepest_named : (s : Store) (n : Titles) (f : ℕ) → deepest (tree_store s n) f ≡ deepest s f
unfolding deepest
deepest_named s n f =
    let t = tree_store s n in
    ap (λ l. fold max 0 (map (λ node. cond (is_node_within t f node) (depth_of t node) 0) l)) (nodes_named s n)
    ∙ ap (fold max 0) (map_alike Node ℕ (λ node. cond (is_node_within t f node) (depth_of t node) 0) (λ node. cond (is_node_within s f node) (depth_of s node) 0)
    (λ node. ap (λ b. cond b (depth_of t node) 0) (node_within_named s n f node) ∙ ap (λ k. cond (is_node_within s f node) k 0) (node_depth_named s n node))
    (nodes_of s))

pub height_named : (s : Store) (n : Titles) (f : ℕ) → height_of (tree_store s n) (Some (folder_node f)) ≡ height_of s (Some (folder_node f))
unfolding height_of folder_node
height_named s n f =
    ap (λ k. k - depth_of (tree_store s n) (folder_node f)) (deepest_named s n f)
    ∙ ap (λ k. deepest s f - k) (depth_named s n f)
