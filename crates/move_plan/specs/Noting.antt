-- The note of a command: each path is replaced by the node that it finds.
use Rattle.std.specs.Prelude.{ℕ, ◌+◌, List, Option, Some, None}
use Rattle.cry_base.specs.Naming.{parent_path}
use Rattle.cry_base.specs.Requests.{Request}
use Rattle.cry_base.specs.Requests.Request.{AddHolder, MakeFolder, WriteFile, Remove, Rename, Relocate, Grant, Revoke}
use Rattle.cry_base.specs.Store.{Store, node_at}
use Rattle.cry_base.specs.Refusing.{granted_id, id_of}
use Rattle.cry_base.specs.declared.roles.Node.{Node}
use Rattle.cry_base.specs.declared.roles.Node.TheVariants.{Folder, File}
use Rattle.record_format.specs.Noted.{Note}
use Rattle.record_format.specs.Noted.Note.{Root, NewHolder, NewFolder, NewFile, Rewrite, NameFile, NameFolder, DropFile, DropFolder}
use Rattle.record_format.specs.Noted.Note.{ShiftFile, ShiftFolder, Give, Take}

-- for each command on a node, its note where the node is a folder and where it is a file.
-- For a write nothing found, and so a new file, is the third case; elsewhere none is due
unfoldable pub write_note : Store → Option Node → ℕ → Note
write_note s None folder = NewFile (s.files_made + 1) folder
write_note s (Some (Folder f)) folder = Root
write_note s (Some (File x)) folder = Rewrite x.0

unfoldable pub remove_note : Option Node → Note
remove_note None = Root
remove_note (Some (Folder f)) = DropFolder f.0
remove_note (Some (File x)) = DropFile x.0

unfoldable pub rename_note : Option Node → Note
rename_note None = Root
rename_note (Some (Folder f)) = NameFolder f.0
rename_note (Some (File x)) = NameFile x.0

unfoldable pub move_note : Option Node → ℕ → Note
move_note None into = Root
move_note (Some (Folder f)) into = ShiftFolder f.0 into
move_note (Some (File x)) into = ShiftFile x.0 into

-- the note of an accepted command. The check is the new holder's
unfoldable pub note_of : Store → Request → List ℕ → Note
note_of s AddHolder check = NewHolder (s.holders_made + 1) check
note_of s (MakeFolder path) check = NewFolder (s.folders_made + 1) (id_of (node_at s (parent_path path)))
note_of s (WriteFile path bytes) check = write_note s (node_at s path) (id_of (node_at s (parent_path path)))
note_of s (Remove path) check = remove_note (node_at s path)
note_of s (Rename path name) check = rename_note (node_at s path)
note_of s (Relocate path into) check = move_note (node_at s path) (id_of (node_at s into))
note_of s (Grant holder path) check = Give holder (granted_id (node_at s path))
note_of s (Revoke holder path) check = Take holder (granted_id (node_at s path))
