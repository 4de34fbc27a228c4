-- The plain store: what a store holds, with no key of a folder in it. This project's own, docs/FORMAT.md.
use Rattle.std.specs.Prelude.{ℕ, zero, suc, Bool, ◌&&◌, ◌==◌, List, [], ◌∷◌, ◌++◌, map, length, find, drop, Option, Some, None, option_map}
use Rattle.std.specs.Prelude.{unwrap_or, bytes_eq}
use Rattle.std.specs.List.{list_any}
use Rattle.cry_base.specs.Naming.{spell_path}
use Rattle.cry_base.specs.declared.roles.Node.{Node}
use Rattle.cry_base.specs.declared.roles.Node.TheVariants.{Folder, File}

-- a folder, in the folder with the number parent. The root's parent is 0, and its name empty
pub record FolderEntry : Type 0 where
  pub id : ℕ
  pub parent : ℕ
  pub name : List ℕ

-- a file in a folder
pub record FileEntry : Type 0 where
  pub id : ℕ
  pub folder : ℕ
  pub name : List ℕ
  pub bytes : List ℕ

-- a holder, and the holder's key
pub record HolderEntry : Type 0 where
  pub number : ℕ
  pub key : List ℕ

-- the holder may read the folder and all below it, or the file
pub record GrantEntry : Type 0 where
  pub holder : ℕ
  -- a folder's number, or a file's clearance number
  pub folder : ℕ

-- what stands, and how many of each kind were ever made
pub record Store : Type 0 where
  pub folders : List FolderEntry
  pub files : List FileEntry
  pub holders : List HolderEntry
  pub grants : List GrantEntry
  pub folders_made : ℕ
  pub files_made : ℕ
  pub holders_made : ℕ

-- nothing, and nothing ever made
unfoldable pub no_store : Store
no_store = record { folders = []; files = []; holders = []; grants = []; folders_made = 0; files_made = 0; holders_made = 0 }

-- the root alone
unfoldable pub root_store : Store
root_store = record no_store { folders = record { id = 1; parent = 0; name = [] } ∷ []; folders_made = 1 }

-- a node of the code's type
unfoldable pub folder_node : ℕ → Node
folder_node f = Folder (record { 0 = f })

unfoldable pub file_node : ℕ → Node
file_node x = File (record { 0 = x })

-- the folder, file and holder with a number
unfoldable pub folder_entry : Store → ℕ → Option FolderEntry
folder_entry s f = find (λ e. e.id == f) s.folders

unfoldable pub file_entry : Store → ℕ → Option FileEntry
file_entry s x = find (λ e. e.id == x) s.files

unfoldable pub holder_entry : Store → ℕ → Option HolderEntry
holder_entry s h = find (λ e. e.number == h) s.holders

-- whether the holder has a grant on that very folder, or on the file with the clearance number
unfoldable pub has_grant : Store → ℕ → ℕ → Bool
has_grant s h f = list_any (λ g. g.holder == h && g.folder == f) s.grants

-- the folder, and what comes above it
unfoldable pub and_above : Option FolderEntry → (FolderEntry → List FolderEntry) → List FolderEntry
and_above None above = []
and_above (Some e) above = e ∷ above e

-- the folder f, its parent and so on: at most n of them
unfoldable pub way_up : ℕ → List FolderEntry → ℕ → List FolderEntry
way_up zero folders f = []
way_up (suc n) folders f = and_above (find (λ e. e.id == f) folders) (λ e. way_up n folders e.parent)

-- the folders from f up to the root, f first
unfoldable pub way_to_root : Store → ℕ → List FolderEntry
way_to_root s f = way_up (length s.folders) s.folders f

-- the list from its end
unfoldable pub backwards : {X : Type 0} → List X → List X
backwards [] = []
backwards (x ∷ xs) = backwards xs ++ x ∷ []

-- the names from the root down to the folder, without the root's
unfoldable pub folder_names : Store → ℕ → List (List ℕ)
folder_names s f = drop 1 (backwards (map (λ e. e.name) (way_to_root s f)))

-- those down to the file
unfoldable pub file_names : Store → FileEntry → List (List ℕ)
file_names s e = folder_names s e.folder ++ e.name ∷ []

-- the names from the root down to the node
unfoldable pub node_names : Store → Node → List (List ℕ)
node_names s (Folder f) = folder_names s f.0
node_names s (File x) = unwrap_or (option_map (file_names s) (file_entry s x.0)) []

-- the node's path
unfoldable pub path_of : Store → Node → List ℕ
path_of s node = spell_path (node_names s node)

-- how many names its path has
unfoldable pub depth_of : Store → Node → ℕ
depth_of s node = length (node_names s node)

-- all folders, and then all files
unfoldable pub nodes_of : Store → List Node
nodes_of s = map (λ e. folder_node e.id) s.folders ++ map (λ e. file_node e.id) s.files

-- the node that has this path: where two have it, a folder before a file, and a lower number first
unfoldable pub node_at : Store → List ℕ → Option Node
node_at s path = find (λ node. bytes_eq (path_of s node) path) (nodes_of s)

-- whether the folder is the other one, or under it
unfoldable pub is_within : Store → ℕ → ℕ → Bool
is_within s f above = list_any (λ e. e.id == above) (way_to_root s f)
