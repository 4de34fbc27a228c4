-- What the plain store holds after some lines of a generated script. This project's own.
use Rattle.std.specs.Prelude.{◌≡◌, ℕ, ◌+◌, ◌<◌, ◌≤◌, ◌⊎◌, List, [], ◌∷◌, false, is_none}
use Rattle.cry_base.specs.Sets.{In}
use Rattle.cry_base.specs.Store.{Store, FolderEntry, FileEntry, holder_entry, has_grant}
use Rattle.store_gen.specs.Rule.{IsReady, has_granted, home_of}
use Rattle.store_gen.specs.declared.generator.Generator.{Generator}

-- the folder dN has the number N + 2, since the root has the number 1
abbrev pub folder_of : ℕ → FolderEntry
folder_of n = record { id = n + 2; parent = 1; name = 100 ∷ (48 + n) ∷ [] }

abbrev pub the_folders : List FolderEntry
the_folders = record { id = 1; parent = 0; name = [] }
    ∷ folder_of 0 ∷ folder_of 1 ∷ folder_of 2 ∷ folder_of 3 ∷ folder_of 4 ∷ folder_of 5 ∷ folder_of 6 ∷ folder_of 7 ∷ []

-- the file tN, with the number N + 1, is in the folder where the generator has it
pub record IsMoved (g : Generator) (e : FileEntry) (n : ℕ) : Type 0 where
  pub below : n < 8
  pub id : e.id ≡ n + 1
  pub name : e.name ≡ 116 ∷ (48 + n) ∷ []
  pub folder : e.folder ≡ home_of g n + 2

-- a file fN, in one of the folders
pub record IsWritten (e : FileEntry) : Type 0 where
  pub from_nine : 8 < e.id
  pub n : ℕ
  pub name : e.name ≡ 102 ∷ (48 + n) ∷ []
  pub m : ℕ
  pub below : m < 8
  pub folder : e.folder ≡ m + 2

abbrev pub IsFile : Generator → FileEntry → Type 0
IsFile g e = ((n : ℕ) × IsMoved g e n) ⊎ IsWritten e

-- The eight folders stand below the root, the four holders were made, a grant stands where the generator has it, and each
-- file is one of t0 to t7, which all stand, or one that was written.
pub record Stands (g : Generator) (s : Store) : Type 0 where
  pub ready : IsReady g
  pub folders : s.folders ≡ the_folders
  pub holders : (who : ℕ) → who < 4 → is_none (holder_entry s (who + 1)) ≡ false
  pub grants : (who folder : ℕ) → who < 4 → folder < 8 → has_grant s (who + 1) (folder + 2) ≡ has_granted g who folder
  pub all : (e : FileEntry) → In e s.files → IsFile g e
  pub each : (n : ℕ) → n < 8 → (e : FileEntry) × In e s.files × (e.id ≡ n + 1)
  pub made : 8 ≤ s.files_made
