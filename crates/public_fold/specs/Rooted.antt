-- What holds of a store beside its names and its keys, whichever payloads that fit made it.
use Rattle.std.specs.Prelude.{◌≡◌, ◌<◌, ◌⊎◌, ℕ}
use Rattle.cry_base.specs.Clearances.{clear_base}
use Rattle.cry_base.specs.Sets.{In}
use Rattle.cry_base.specs.Store.{Store, FolderEntry, FileEntry, HolderEntry, GrantEntry, no_store}
use Rattle.role_graph.specs.RightsByReach.{HasFolder, MayBeGranted}
use Rattle.public_fold.specs.Counted.{AreCounted}
use Rattle.public_fold.specs.Tree.{AreNumbered, AtLevel}

-- the root stands, and each folder some levels below it; ids differ, and none is above the count of its kind ever made;
-- files are in folders that stand, grants are on folders and files that stand, and holders of grants were made; no number of a folder
-- or file is a clearance number
pub record IsRooted (s : Store) : Type 0 where
  pub counted : AreCounted s
  pub numbered : AreNumbered s.folders
  pub own_file : (a b : FileEntry) → In a s.files → In b s.files → a.id ≡ b.id → a ≡ b
  pub root_stands : AtLevel 0 s.folders 1
  pub folder_level : (e : FolderEntry) → In e s.folders → (n : ℕ) × AtLevel n s.folders e.id
  pub file_folder : (x : FileEntry) → In x s.files → HasFolder s x.folder
  pub granted_stands : (g : GrantEntry) → In g s.grants → MayBeGranted s g.folder
  pub held : (g : GrantEntry) → In g s.grants → (h : HolderEntry) × In h s.holders × (h.number ≡ g.holder)
  pub folders_below : s.folders_made < clear_base
  pub files_below : s.files_made < clear_base

-- nothing was ever made, or the store is rooted
abbrev pub MayStand : Store → Type 0
MayStand s = (s ≡ no_store) ⊎ IsRooted s
