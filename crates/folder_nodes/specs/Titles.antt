-- What contracts see of names.
use Rattle.std.specs.Prelude.{◌≡◌, ℕ, Bool, false, ◌==◌, ◌⊎◌, List, [], map, find, Option, Some, None, IsTrue}
use Rattle.cry_base.specs.Naming.{is_name}
use Rattle.cry_base.specs.Store.{Store, FolderEntry, FileEntry}
use Rattle.cry_base.specs.declared.roles.Node.{Node}
use Rattle.cry_base.specs.declared.roles.Node.TheVariants.{Folder, File}

-- the name of the folder or file with the number, and its bytes
pub record Title : Type 0 where
  pub id : ℕ
  pub name : List ℕ
  pub bytes : List ℕ

-- titles of folders and of files, by number, and how many changes have their memory
pub record Titles : Type 0 where
  pub folders : List Title
  pub files : List Title
  pub spare : ℕ

-- a name, or the root's, which is empty
abbrev pub MayBeNamed : List ℕ → Type 0
MayBeNamed name = (name ≡ []) ⊎ IsTrue (is_name name)

-- the title with the number
abbrev pub title_at : List Title → ℕ → Option Title
title_at titles id = find (λ (t : Title). t.id == id) titles

-- a node's title
abbrev pub title_of : Titles → Node → Option Title
title_of n (Folder f) = title_at n.folders f.0
title_of n (File x) = title_at n.files x.0

-- a title's name and bytes, and none where there is no title
abbrev pub name_in : Option Title → List ℕ
name_in None = []
name_in (Some t) = t.name

abbrev pub bytes_in : Option Title → List ℕ
bytes_in None = []
bytes_in (Some t) = t.bytes

-- the tree with these names and bytes
unfoldable pub tree_store : Store → Titles → Store
tree_store s n = record s {
  folders = map (λ (e : FolderEntry). record e { name = name_in (title_at n.folders e.id) }) s.folders;
  files = map (λ (e : FileEntry). record e { name = name_in (title_at n.files e.id); bytes = bytes_in (title_at n.files e.id) }) s.files;
}

-- whether two nodes are one
abbrev pub is_node : Node → Node → Bool
is_node (Folder f) (Folder g) = f.0 == g.0
is_node (File x) (File y) = x.0 == y.0
is_node (Folder f) (File y) = false
is_node (File x) (Folder g) = false

-- the title that a node gets
abbrev pub new_title : Node → List ℕ → List ℕ → Title
new_title (Folder f) name bytes = record { id = f.0; name = name; bytes = bytes }
new_title (File x) name bytes = record { id = x.0; name = name; bytes = bytes }
