-- What a store needs so that no two nodes have one path.
use Rattle.std.specs.Prelude.{◌≡◌, ◌≢◌, List, [], ◌∷◌, IsTrue, Bool, false, not, ◌&&◌, ◌||◌, ◌==◌, bytes_eq}
use Rattle.std.specs.List.{list_all}
use Rattle.cry_base.specs.Naming.{is_name}
use Rattle.cry_base.specs.Sets.{In}
use Rattle.cry_base.specs.Store.{Store, FolderEntry, FileEntry, way_to_root}

-- a way up that ends at a folder without a parent, and at no folder before it
abbrev pub IsWhole : List FolderEntry → Type 0
IsWhole [] = ⊥
IsWhole (e ∷ []) = e.parent ≡ 0
IsWhole (e ∷ d ∷ ds) = (e.parent ≢ 0) × IsWhole (d ∷ ds)

-- names in one folder differ, over folders and files together; all but the root's are names; each way up ends at the root
pub record HasOwnNames (s : Store) : Type 0 where
  pub two_folders : (a b : FolderEntry) → In a s.folders → In b s.folders → a.parent ≡ b.parent → a.name ≡ b.name → a.id ≡ b.id
  pub two_files : (a b : FileEntry) → In a s.files → In b s.files → a.folder ≡ b.folder → a.name ≡ b.name → a ≡ b
  pub folder_and_file : (a : FolderEntry) (b : FileEntry) → In a s.folders → In b s.files → a.parent ≡ b.folder → a.name ≡ b.name → ⊥
  pub folder_name : (a : FolderEntry) → In a s.folders → a.parent ≢ 0 → IsTrue (is_name a.name)
  pub file_name : (b : FileEntry) → In b s.files → IsTrue (is_name b.name)
  pub one_root : (a : FolderEntry) → In a s.folders → a.parent ≡ 0 → a.id ≡ 1
  pub folder_way : (a : FolderEntry) → In a s.folders → IsWhole (way_to_root s a.id)
  pub file_way : (b : FileEntry) → In b s.files → IsWhole (way_to_root s b.folder)

-- the same, computed
unfoldable pub is_whole : List FolderEntry → Bool
is_whole [] = false
is_whole (e ∷ []) = e.parent == 0
is_whole (e ∷ d ∷ ds) = not (e.parent == 0) && is_whole (d ∷ ds)

-- whether the one test passes wherever the other does
unfoldable pub only_if : Bool → Bool → Bool
only_if a b = not a || b

unfoldable pub is_same_file : FileEntry → FileEntry → Bool
is_same_file a b = (a.id == b.id && a.folder == b.folder) && (bytes_eq a.name b.name && bytes_eq a.bytes b.bytes)

unfoldable pub folders_differ : List FolderEntry → Bool
folders_differ fs = list_all (λ (a : FolderEntry). list_all (λ (b : FolderEntry). only_if (a.parent == b.parent
    && bytes_eq a.name b.name) (a.id == b.id)) fs) fs

unfoldable pub files_differ : List FileEntry → Bool
files_differ xs = list_all (λ (a : FileEntry). list_all (λ (b : FileEntry). only_if (a.folder == b.folder
    && bytes_eq a.name b.name) (is_same_file a b)) xs) xs

unfoldable pub kinds_differ : List FolderEntry → List FileEntry → Bool
kinds_differ fs xs = list_all (λ (a : FolderEntry). list_all (λ (b : FileEntry). not (a.parent == b.folder
    && bytes_eq a.name b.name)) xs) fs

unfoldable pub folders_are_named : List FolderEntry → Bool
folders_are_named fs = list_all (λ (a : FolderEntry). (a.parent == 0 || is_name a.name) && only_if (a.parent == 0) (a.id == 1)) fs

unfoldable pub ways_are_whole : Store → Bool
ways_are_whole s = list_all (λ (a : FolderEntry). is_whole (way_to_root s a.id)) s.folders
    && list_all (λ (b : FileEntry). is_name b.name && is_whole (way_to_root s b.folder)) s.files

unfoldable pub has_own_names : Store → Bool
has_own_names s = (folders_differ s.folders && (files_differ s.files && kinds_differ s.folders s.files))
    && (folders_are_named s.folders && ways_are_whole s)
