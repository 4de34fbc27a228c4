-- What numbers stand in a store.
use Rattle.std.specs.Prelude.{◌≤◌}
use Rattle.cry_base.specs.Sets.{In}
use Rattle.cry_base.specs.Store.{Store, FolderEntry, FileEntry, HolderEntry}

-- no number that stands is above the count of its kind ever made
pub record AreCounted (s : Store) : Type 0 where
  pub each_folder : (e : FolderEntry) → In e s.folders → e.id ≤ s.folders_made
  pub each_file : (e : FileEntry) → In e s.files → e.id ≤ s.files_made
  pub each_holder : (e : HolderEntry) → In e s.holders → e.number ≤ s.holders_made
