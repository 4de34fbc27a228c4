-- What is asked for, without where its texts lie in memory.
use Rattle.std.specs.Prelude.{ℕ, List, [], ◌∷◌}
use Rattle.cry_base.specs.declared.commands.Command.{Command}
use Rattle.cry_base.specs.declared.commands.Command.TheVariants as command

-- a command, by its numbers and bytes
pub data Request : Type 0 where
  AddHolder : Request
  MakeFolder : (path : List ℕ) → Request
  WriteFile : (path bytes : List ℕ) → Request
  Remove : (path : List ℕ) → Request
  Rename : (path name : List ℕ) → Request
  Relocate : (path into : List ℕ) → Request
  Grant : (holder : ℕ) → (path : List ℕ) → Request
  Revoke : (holder : ℕ) → (path : List ℕ) → Request

-- what a command of the code asks for
abbrev pub request_of : Command → Request
request_of command.AddHolder = AddHolder
request_of (command.MakeFolder path) = MakeFolder path.items
request_of (command.WriteFile path bytes) = WriteFile path.items bytes.items
request_of (command.Remove path) = Remove path.items
request_of (command.Rename path name) = Rename path.items name.items
request_of (command.Relocate path into) = Relocate path.items into.items
request_of (command.Grant holder path) = Grant holder.0 path.items
request_of (command.Revoke holder path) = Revoke holder.0 path.items

-- the paths that are given, the one to be changed first
unfoldable pub paths_of : Request → List (List ℕ)
paths_of AddHolder = []
paths_of (MakeFolder path) = path ∷ []
paths_of (WriteFile path bytes) = path ∷ []
paths_of (Remove path) = path ∷ []
paths_of (Rename path name) = path ∷ []
paths_of (Relocate path into) = path ∷ into ∷ []
paths_of (Grant holder path) = path ∷ []
paths_of (Revoke holder path) = path ∷ []
