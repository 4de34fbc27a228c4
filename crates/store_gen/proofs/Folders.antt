-- The eight folders, and paths in them.
use Rattle.std.proofs.Common.{◌≡◌, ℕ, zero, suc, ◌+◌, ◌<◌, Bool, true, false, cond, List, [], ◌∷◌, ◌++◌, map, Some, refl, ap, sym, subst, arith}
use Rattle.std.specs.Prelude.{bytes_eq}
use Rattle.std.specs.List.{find, list_all}
use Rattle.cry_base.specs.Naming.{is_between, is_name_byte, is_name, spell_path, names_of, is_path, front, last_name, parent_path}
use Rattle.cry_base.specs.Store.{Store, FileEntry, folder_node, file_node, and_above, way_up, way_to_root, backwards, folder_names, node_names, path_of, depth_of, nodes_of, node_at}
use Rattle.cry_base.specs.Refusing.{is_folder}
use Rattle.cry_base.specs.declared.roles.Node.{Node}
use Rattle.cry_base.proofs.Paths.{path_told, names_told}
use Rattle.std.proofs.lemmas.Bool.{and_from}
use Rattle.store_gen.specs.Rule.{folder_path}
use Rattle.store_gen.specs.Standing.{the_folders}

-- what holds of each number below eight
pub below_eight : (P : ℕ → Type 0) → P 0 → P 1 → P 2 → P 3 → P 4 → P 5 → P 6 → P 7 → (n : ℕ) → n < 8 → P n
below_eight P a b c d e f g h zero l = a
below_eight P a b c d e f g h (suc zero) l = b
below_eight P a b c d e f g h (suc (suc zero)) l = c
below_eight P a b c d e f g h (suc (suc (suc zero))) l = d
below_eight P a b c d e f g h (suc (suc (suc (suc zero)))) l = e
below_eight P a b c d e f g h (suc (suc (suc (suc (suc zero))))) l = f
below_eight P a b c d e f g h (suc (suc (suc (suc (suc (suc zero)))))) l = g
below_eight P a b c d e f g h (suc (suc (suc (suc (suc (suc (suc zero))))))) l = h
below_eight P a b c d e f g h (suc (suc (suc (suc (suc (suc (suc (suc n)))))))) l = absurd (omega arith)

-- a store with these very folders
abbrev pub with_eight : Store → Store
with_eight s = record s { folders = the_folders }

pub on_eight : (P : Store → Type 0) (s : Store) → s.folders ≡ the_folders → P (with_eight s) → P s
on_eight P s is h = subst (λ fs. P (record s { folders = fs })) (sym is) h

names_computed : (s : Store) (n : ℕ) → n < 8 → folder_names (with_eight s) (n + 2) ≡ (100 ∷ (48 + n) ∷ []) ∷ []
unfolding folder_names way_to_root way_up and_above backwards
names_computed s = below_eight (λ n. folder_names (with_eight s) (n + 2) ≡ (100 ∷ (48 + n) ∷ []) ∷ []) refl refl refl refl refl refl refl refl

pub names_in_folder : (s : Store) → s.folders ≡ the_folders → (n : ℕ) → n < 8 → folder_names s (n + 2) ≡ (100 ∷ (48 + n) ∷ []) ∷ []
names_in_folder s is n h = on_eight (λ t. folder_names t (n + 2) ≡ (100 ∷ (48 + n) ∷ []) ∷ []) s is (names_computed s n h)

folder_computed : (s : Store) (n : ℕ) → n < 8 → node_at (with_eight s) (folder_path n) ≡ Some (folder_node (n + 2))
unfolding node_at nodes_of path_of node_names folder_names way_to_root way_up and_above backwards spell_path folder_node
folder_computed s = below_eight (λ n. node_at (with_eight s) (folder_path n) ≡ Some (folder_node (n + 2))) refl refl refl refl refl refl refl refl

-- the path of a folder finds it
pub folder_found : (s : Store) → s.folders ≡ the_folders → (n : ℕ) → n < 8 → node_at s (folder_path n) ≡ Some (folder_node (n + 2))
folder_found s is n h = on_eight (λ t. node_at t (folder_path n) ≡ Some (folder_node (n + 2))) s is (folder_computed s n h)

depth_computed : (s : Store) (n : ℕ) → n < 8 → depth_of (with_eight s) (folder_node (n + 2)) ≡ 1
unfolding depth_of node_names folder_names way_to_root way_up and_above backwards folder_node
depth_computed s = below_eight (λ n. depth_of (with_eight s) (folder_node (n + 2)) ≡ 1) refl refl refl refl refl refl refl refl

pub depth_one : (s : Store) → s.folders ≡ the_folders → (n : ℕ) → n < 8 → depth_of s (folder_node (n + 2)) ≡ 1
depth_one s is n h = on_eight (λ t. depth_of t (folder_node (n + 2)) ≡ 1) s is (depth_computed s n h)

-- among files no folder is found
no_folder : (test : Node → Bool) (files : List FileEntry) → is_folder (find test (map (λ (e : FileEntry). file_node e.id) files)) ≡ false
unfolding is_folder file_node
no_folder test [] = refl
no_folder test (e ∷ es) =
    elim (test (file_node e.id)) as (λ b. is_folder (cond b (Some (file_node e.id)) (find test (map (λ (x : FileEntry). file_node x.id) es))) ≡ false) [ true ↦ refl | false ↦ no_folder test es ]

file_computed : (s : Store) (letter k m : ℕ) → m < 8 → is_folder (node_at (with_eight s) (folder_path m ++ 47 ∷ letter ∷ (48 + k) ∷ [])) ≡ false
unfolding node_at nodes_of path_of node_names folder_names way_to_root way_up and_above backwards spell_path folder_node
file_computed s letter k =
    let none : (m : ℕ) → is_folder (find (λ node. bytes_eq (path_of (with_eight s) node) (folder_path m ++ 47 ∷ letter ∷ (48 + k) ∷ [])) (map (λ (e : FileEntry). file_node e.id) s.files)) ≡ false =
    λ m. no_folder (λ node. bytes_eq (path_of (with_eight s) node) (folder_path m ++ 47 ∷ letter ∷ (48 + k) ∷ [])) s.files in
    below_eight (λ m. is_folder (node_at (with_eight s) (folder_path m ++ 47 ∷ letter ∷ (48 + k) ∷ [])) ≡ false) (none 0) (none 1) (none 2) (none 3) (none 4) (none 5) (none 6) (none 7)

-- a path below a folder finds no folder
pub no_folder_found : (s : Store) → s.folders ≡ the_folders → (letter k m : ℕ) → m < 8 → is_folder (node_at s (folder_path m ++ 47 ∷ letter ∷ (48 + k) ∷ [])) ≡ false
no_folder_found s is letter k m h = on_eight (λ t. is_folder (node_at t (folder_path m ++ 47 ∷ letter ∷ (48 + k) ∷ [])) ≡ false) s is (file_computed s letter k m h)

-- a letter and a digit are a name
pub folder_name : (n : ℕ) → n < 8 → is_name (100 ∷ (48 + n) ∷ []) ≡ true
unfolding is_name is_name_byte is_between
folder_name = below_eight (λ n. is_name (100 ∷ (48 + n) ∷ []) ≡ true) refl refl refl refl refl refl refl refl

pub written_name : (n : ℕ) → n < 8 → is_name (102 ∷ (48 + n) ∷ []) ≡ true
unfolding is_name is_name_byte is_between
written_name = below_eight (λ n. is_name (102 ∷ (48 + n) ∷ []) ≡ true) refl refl refl refl refl refl refl refl

pub moved_name : (n : ℕ) → n < 8 → is_name (116 ∷ (48 + n) ∷ []) ≡ true
unfolding is_name is_name_byte is_between
moved_name = below_eight (λ n. is_name (116 ∷ (48 + n) ∷ []) ≡ true) refl refl refl refl refl refl refl refl

pub folder_is_path : (m : ℕ) → m < 8 → is_path (folder_path m) ≡ true
unfolding spell_path
folder_is_path m h = (path_told (folder_path m)).1 ((100 ∷ (48 + m) ∷ []) ∷ [], and_from _ _ (folder_name m h) refl, refl)

-- a path in a folder: its form, its names and its parent
module _ (m letter k : ℕ) (h : m < 8) (name : is_name (letter ∷ (48 + k) ∷ []) ≡ true) where
  both : list_all is_name ((100 ∷ (48 + m) ∷ []) ∷ (letter ∷ (48 + k) ∷ []) ∷ []) ≡ true
  both = and_from _ _ (folder_name m h) (and_from _ _ name refl)

  pub file_is_path : is_path (folder_path m ++ 47 ∷ letter ∷ (48 + k) ∷ []) ≡ true
  unfolding spell_path
  file_is_path = (path_told (folder_path m ++ 47 ∷ letter ∷ (48 + k) ∷ [])).1 ((100 ∷ (48 + m) ∷ []) ∷ (letter ∷ (48 + k) ∷ []) ∷ [], both, refl)

  pub file_names_of : names_of (folder_path m ++ 47 ∷ letter ∷ (48 + k) ∷ []) ≡ (100 ∷ (48 + m) ∷ []) ∷ (letter ∷ (48 + k) ∷ []) ∷ []
  unfolding spell_path
  file_names_of = names_told ((100 ∷ (48 + m) ∷ []) ∷ (letter ∷ (48 + k) ∷ []) ∷ []) both

  pub file_parent : parent_path (folder_path m ++ 47 ∷ letter ∷ (48 + k) ∷ []) ≡ folder_path m
  unfolding parent_path spell_path front
  file_parent = ap (λ (ns : List (List ℕ)). spell_path (front ns)) file_names_of

  pub file_last : last_name (names_of (folder_path m ++ 47 ∷ letter ∷ (48 + k) ∷ [])) ≡ letter ∷ (48 + k) ∷ []
  unfolding last_name
  file_last = ap last_name file_names_of
