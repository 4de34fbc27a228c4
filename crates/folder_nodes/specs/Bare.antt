-- What contracts see of a shape.
use Rattle.std.specs.Prelude.{ℕ, List, [], map}
use Rattle.cry_base.specs.Store.{Store, FolderEntry, FileEntry}
use Rattle.folder_nodes.specs.declared.rows.FolderRow.{FolderRow}
use Rattle.folder_nodes.specs.declared.rows.FileRow.{FileRow}

-- the tree as a plain store without names, bytes, holders and grants, and how many changes have their memory
pub record Shaped : Type 0 where
  pub tree : Store
  pub spare : ℕ

-- a row as the plain store has it
abbrev pub folder_of_row : FolderRow → FolderEntry
folder_of_row row = record { id = row.id.0; parent = row.parent; name = [] }

abbrev pub file_of_row : FileRow → FileEntry
file_of_row row = record { id = row.id.0; folder = row.folder.0; name = []; bytes = [] }

-- the plain store with these folders and files, in order, and so many ever made
abbrev pub bare_store : List FolderRow → List FileRow → ℕ → ℕ → Store
bare_store folders files folders_made files_made = record {
  folders = map folder_of_row folders;
  files = map file_of_row files;
  holders = [];
  grants = [];
  folders_made = folders_made;
  files_made = files_made;
  holders_made = 0;
}
