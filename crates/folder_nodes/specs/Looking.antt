-- What a look-up answers.
use Rattle.std.specs.Prelude.{ℕ, ◌==◌, if◌then◌else◌, Option, Some, None}
use Rattle.cry_base.specs.Store.{FolderEntry, FileEntry}
use Rattle.cry_base.specs.declared.ids.FolderId.{FolderId}

-- the number as a folder's, where it is one: none is 0
abbrev pub some_folder : ℕ → Option FolderId
some_folder f = if f == 0 then None else Some (record { 0 = f })

-- the folder that a folder is in, that a file is in
abbrev pub parent_id : Option FolderEntry → Option FolderId
parent_id None = None
parent_id (Some e) = some_folder e.parent

abbrev pub folder_id_of : Option FileEntry → Option FolderId
folder_id_of None = None
folder_id_of (Some e) = Some (record { 0 = e.folder })

-- the number of the folder that a folder is in: 0 above the root
abbrev pub parent_number_of : Option FolderEntry → ℕ
parent_number_of None = 0
parent_number_of (Some e) = e.parent

-- the number of the folder that a file is in, and 0 where it doesn't stand
abbrev pub folder_number_of : Option FileEntry → ℕ
folder_number_of None = 0
folder_number_of (Some e) = e.folder
