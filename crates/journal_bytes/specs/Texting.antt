-- What text a command seals, and what names and bytes stand after it. This project's own, docs/FORMAT.md, "Records".
use Rattle.std.specs.Prelude.{◌≡◌, ℕ, ◌+◌, List, [], ◌∷◌, ◌++◌, length, Option, Some, None}
use Rattle.cry_base.specs.Naming.{last_name, names_of}
use Rattle.cry_base.specs.Requests.{Request}
use Rattle.cry_base.specs.Requests.Request.{AddHolder, MakeFolder, WriteFile, Remove, Rename, Relocate, Grant, Revoke}
use Rattle.cry_base.specs.Store.{Store, file_entry, node_at}
use Rattle.cry_base.specs.declared.roles.Node.{Node}
use Rattle.cry_base.specs.declared.roles.Node.TheVariants.{Folder, File}
use Rattle.folder_nodes.specs.Joining.{IsSet, IsForgotten}
use Rattle.folder_nodes.specs.Titles.{Titles, bytes_in, title_at}

-- the last name of a path
abbrev pub name_at : List ℕ → List ℕ
name_at path = last_name (names_of path)

-- the bytes of a file
abbrev pub bytes_of_file : Store → ℕ → List ℕ
bytes_of_file s x = elim (file_entry s x) [ None ↦ [] | Some e ↦ e.bytes ]

-- a file's text: its name's length as one byte, the name, the bytes
abbrev pub file_text : List ℕ → List ℕ → List ℕ
file_text name bytes = length name ∷ (name ++ bytes)

-- the text of a node under a new name: a folder's is the name alone
unfoldable pub renamed_text : Store → Option Node → List ℕ → List ℕ
renamed_text s None name = []
renamed_text s (Some (Folder f)) name = name
renamed_text s (Some (File x)) name = file_text name (bytes_of_file s x.0)

-- the text that a command seals in the store before it, but for a new holder's key
unfoldable pub due_text : Store → Request → List ℕ
due_text s AddHolder = []
due_text s (MakeFolder path) = name_at path
due_text s (WriteFile path bytes) = file_text (name_at path) bytes
due_text s (Remove path) = []
due_text s (Rename path name) = renamed_text s (node_at s path) name
due_text s (Relocate path into) = []
due_text s (Grant h path) = []
due_text s (Revoke h path) = []

-- the key that a command seals, where it makes a holder
unfoldable pub due_key : Request → List ℕ → List ℕ
due_key AddHolder key = key
due_key (MakeFolder path) key = []
due_key (WriteFile path bytes) key = []
due_key (Remove path) key = []
due_key (Rename path name) key = []
due_key (Relocate path into) key = []
due_key (Grant h path) key = []
due_key (Revoke h path) key = []

-- the same text, from the names that stand beside a tree
abbrev pub titled_text : Titles → Option Node → List ℕ → List ℕ
titled_text n None name = []
titled_text n (Some (Folder f)) name = name
titled_text n (Some (File x)) name = file_text name (bytes_in (title_at n.files x.0))

-- the same names and bytes
pub record AreKept (old new : Titles) : Type 0 where
  pub folders : new.folders ≡ old.folders
  pub files : new.files ≡ old.files

-- the file has its name and bytes: a new one where nothing was found
abbrev pub IsWritten : ℕ → Titles → Titles → Option Node → List ℕ → List ℕ → Type 0
IsWritten made old new None name bytes = IsSet old new (File (record { 0 = made + 1 })) name bytes
IsWritten made old new (Some (Folder f)) name bytes = AreKept old new
IsWritten made old new (Some (File x)) name bytes = IsSet old new (File x) name bytes

-- what was found has no name now
abbrev pub IsRemoved : Titles → Titles → Option Node → Type 0
IsRemoved old new None = AreKept old new
IsRemoved old new (Some node) = IsForgotten old new node

-- what was found has the new name, and a file the bytes that it had
abbrev pub IsRenamed : Titles → Titles → Option Node → List ℕ → Type 0
IsRenamed old new None name = AreKept old new
IsRenamed old new (Some (Folder f)) name = IsSet old new (Folder f) name []
IsRenamed old new (Some (File x)) name = IsSet old new (File x) name (bytes_in (title_at old.files x.0))

-- the names and bytes after a command, from those before it
abbrev pub AreTitlesAfter : Store → Request → Titles → Titles → Type 0
AreTitlesAfter s AddHolder old new = AreKept old new
AreTitlesAfter s (MakeFolder path) old new = IsSet old new (Folder (record { 0 = s.folders_made + 1 })) (name_at path) []
AreTitlesAfter s (WriteFile path bytes) old new = IsWritten s.files_made old new (node_at s path) (name_at path) bytes
AreTitlesAfter s (Remove path) old new = IsRemoved old new (node_at s path)
AreTitlesAfter s (Rename path name) old new = IsRenamed old new (node_at s path) name
AreTitlesAfter s (Relocate path into) old new = AreKept old new
AreTitlesAfter s (Grant h path) old new = AreKept old new
AreTitlesAfter s (Revoke h path) old new = AreKept old new
