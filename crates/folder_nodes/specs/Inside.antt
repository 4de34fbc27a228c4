-- What is in a folder, listed.
use Rattle.std.specs.Prelude.{ℕ, ◌<◌, ◌↔◌, Bool, false, ◌==◌, List, Option, Some, None, IsTrue, AllPairs}
use Rattle.cry_base.specs.Sets.{In}
use Rattle.cry_base.specs.Store.{FolderEntry, FileEntry}

-- whether a folder stands in the folder f, and whether a file does
abbrev pub is_child_of : ℕ → Option FolderEntry → Bool
is_child_of f None = false
is_child_of f (Some e) = e.parent == f

abbrev pub is_file_of : ℕ → Option FileEntry → Bool
is_file_of f None = false
is_file_of f (Some e) = e.folder == f

-- these are all numbers that pass the test, ascending, each once
pub record AreListed (test : ℕ → Bool) (ids : List ℕ) : Type 0 where
  pub told : (g : ℕ) → In g ids ↔ IsTrue (test g)
  pub rising : AllPairs (λ a b. a < b) ids
