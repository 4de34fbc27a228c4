-- When the folders and files of a plain store are a tree below folder 1.
use Rattle.std.specs.Prelude.{◌≡◌, ◌≢◌, ℕ, ◌<◌, ◌≤◌, length, Some, All, AllPairs}
use Rattle.cry_base.specs.Limits.{most_depth, most_way, way_turns}
use Rattle.cry_base.specs.Store.{Store, FolderEntry, FileEntry, folder_entry, way_up, way_to_root}

-- a tree: numbers ascend and were made, folder 1 is at the top, and no node stands more than 64 names below it
pub record IsTree (s : Store) : Type 0 where
  pub folders_ascend : AllPairs (λ (a b : FolderEntry). a.id < b.id) s.folders
  pub files_ascend : AllPairs (λ (a b : FileEntry). a.id < b.id) s.files
  pub folders_made : All (λ (e : FolderEntry). (1 ≤ e.id) × (e.id ≤ s.folders_made)) s.folders
  pub files_made : All (λ (e : FileEntry). (1 ≤ e.id) × (e.id ≤ s.files_made)) s.files
  pub root : 1 ≤ s.folders_made → (e : FolderEntry) × (folder_entry s 1 ≡ Some e) × (e.parent ≡ 0)
  pub parents_stand : All (λ (e : FolderEntry). e.id ≢ 1 → (p : FolderEntry) × (folder_entry s e.parent ≡ Some p)) s.folders
  pub ways_end : (f : ℕ) → length (way_up way_turns s.folders f) ≤ most_way
  pub files_stand : All (λ (e : FileEntry). (p : FolderEntry) × (folder_entry s e.folder ≡ Some p)
      × (length (way_to_root s e.folder) ≤ most_depth)) s.files
