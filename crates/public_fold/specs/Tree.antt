-- What holds of the tree of folders and files. This project's own, docs/FORMAT.md.
use Rattle.std.specs.Prelude.{◌≡◌, ◌≢◌, ℕ, zero, suc, List, [], ◌∷◌, IsTrue}
use Rattle.cry_base.specs.Naming.{is_name}
use Rattle.cry_base.specs.Sets.{In}
use Rattle.cry_base.specs.Store.{Store, FolderEntry, FileEntry}

-- a way up from the folder f, from parent to parent, that ends at the root and meets no root before
abbrev pub LeadsUp : List FolderEntry → ℕ → Type 0
LeadsUp [] f = ⊥
LeadsUp (e ∷ []) f = (e.id ≡ f) × (f ≡ 1) × (e.parent ≡ 0)
LeadsUp (e ∷ d ∷ ds) f = (e.id ≡ f) × (e.parent ≢ 0) × LeadsUp (d ∷ ds) e.parent

-- the folder f stands n levels below a folder without a parent
abbrev pub AtLevel : ℕ → List FolderEntry → ℕ → Type 0
AtLevel zero fs f = (e : FolderEntry) × In e fs × (e.id ≡ f) × (e.parent ≡ 0)
AtLevel (suc n) fs f = (e : FolderEntry) × In e fs × (e.id ≡ f) × (e.parent ≢ 0) × AtLevel n fs e.parent

-- folders have numbers of their own, none is 0, and the root alone has no parent
pub record AreNumbered (fs : List FolderEntry) : Type 0 where
  pub own : (a b : FolderEntry) → In a fs → In b fs → a.id ≡ b.id → a ≡ b
  pub no_zero : (e : FolderEntry) → In e fs → e.id ≢ 0
  pub one_root : (e : FolderEntry) → In e fs → e.parent ≡ 0 → e.id ≡ 1

-- names in one folder differ, over folders and files together; all but the root's are names
pub record HaveOwnNames (s : Store) : Type 0 where
  pub two_folders : (a b : FolderEntry) → In a s.folders → In b s.folders → a.parent ≡ b.parent → a.name ≡ b.name → a ≡ b
  pub two_files : (a b : FileEntry) → In a s.files → In b s.files → a.folder ≡ b.folder → a.name ≡ b.name → a ≡ b
  pub folder_and_file : (a : FolderEntry) (b : FileEntry) → In a s.folders → In b s.files → a.parent ≡ b.folder → a.name ≡ b.name → ⊥
  pub folder_name : (a : FolderEntry) → In a s.folders → a.parent ≢ 0 → IsTrue (is_name a.name)
  pub file_name : (b : FileEntry) → In b s.files → IsTrue (is_name b.name)
