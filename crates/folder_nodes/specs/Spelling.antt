-- What the names down to a node spell.
use Rattle.std.specs.Prelude.{ℕ, Bool, false, cond, ◌&&◌, ◌==◌, List, ◌∷◌, flat_map, Option, Some, None, is_some, bytes_eq}
use Rattle.cry_base.specs.Store.{Store, FolderEntry, FileEntry, folder_entry, file_entry, file_node, folder_names, node_names}
use Rattle.cry_base.specs.declared.roles.Node.{Node}
use Rattle.cry_base.specs.declared.roles.Node.TheVariants.{Folder, File}

-- a slash before each name: what a path is, but for the root's
unfoldable pub joined : List (List ℕ) → List ℕ
joined names = flat_map (λ n. 47 ∷ n) names

-- whether the folder stands and the names down to it spell the bytes, and so for a file
unfoldable pub leads_to_folder : Store → ℕ → List ℕ → Bool
leads_to_folder s f bytes = is_some (folder_entry s f) && bytes_eq (joined (folder_names s f)) bytes

unfoldable pub leads_to_file : Store → ℕ → List ℕ → Bool
leads_to_file s x bytes = is_some (file_entry s x) && bytes_eq (joined (node_names s (file_node x))) bytes

-- whether the folder or file is in the folder f and has the name
abbrev pub is_folder_in : ℕ → List ℕ → Option FolderEntry → Bool
is_folder_in f name None = false
is_folder_in f name (Some e) = e.parent == f && bytes_eq e.name name

abbrev pub is_file_in : ℕ → List ℕ → Option FileEntry → Bool
is_file_in f name None = false
is_file_in f name (Some e) = e.folder == f && bytes_eq e.name name

-- the root, where it stands
abbrev pub root_in : Store → Option Node
root_in s = cond (is_some (folder_entry s 1)) (Some (Folder (record { 0 = 1 }))) None

-- the number as a file's
abbrev pub as_file : ℕ → Node
as_file x = File (record { 0 = x })
