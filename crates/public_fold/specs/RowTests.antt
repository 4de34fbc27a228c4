-- What a state's rows are tested for before they are taken.
use Rattle.std.specs.Prelude.{ℕ, Bool, true, false, ◌&&◌, ◌||◌, ◌==◌, nat_le, List, Option, None, Some, is_some}
use Rattle.std.specs.List.{list_all, list_any}
use Rattle.cry_base.specs.Clearances.{file_of}
use Rattle.cry_base.specs.Sets.{has}
use Rattle.cry_base.specs.Store.{Store, GrantEntry, file_entry, folder_entry}
use Rattle.cry_base.specs.declared.roles.Role.{Role}
use Rattle.cry_base.specs.declared.roles.Role.TheVariants.{Owner, Holder, Clear, Sub, Back, Files, Data, File}
use Rattle.folder_nodes.specs.Looking.{folder_id_of}
use Rattle.folder_nodes.specs.declared.rows.FileRow.{FileRow as NodeFile}
use Rattle.folder_nodes.specs.declared.rows.FolderRow.{FolderRow as NodeFolder}
use Rattle.index_format.specs.declared.rows.FileRow.{FileRow}
use Rattle.index_format.specs.declared.rows.FolderRow.{FolderRow}
use Rattle.role_graph.specs.Roles.{folder_roles, same_role}

-- rows as a shape has them
abbrev pub bare_folder : FolderRow → NodeFolder
bare_folder row = record { id = record { 0 = row.id }; parent = row.parent }

abbrev pub bare_file : FileRow → NodeFile
bare_file row = record { id = record { 0 = row.id }; folder = record { 0 = row.folder } }

-- the file stands, where there is one
abbrev pub has_file : Store → Option ℕ → Bool
has_file t None = false
has_file t (Some x) = is_some (folder_id_of (file_entry t x))

-- a file that stands has the clearance number
abbrev pub has_clear_number : Store → ℕ → Bool
has_clear_number t n = has_file t (file_of n)

-- a folder or a file that stands has the number
abbrev pub can_be_granted : Store → ℕ → Bool
can_be_granted t n = is_some (folder_entry t n) || has_clear_number t n

-- the number is that of a folder that stands, or the clearance number of a file with a grant
abbrev pub has_clear_key : Store → List GrantEntry → ℕ → Bool
has_clear_key t pairs n = is_some (folder_entry t n) || (list_any (λ g. g.folder == n) pairs && has_clear_number t n)

-- the role stands beside this tree, these grants and so many holders
abbrev pub stands_beside : Store → List GrantEntry → ℕ → Role → Bool
stands_beside t pairs holders Owner = true
stands_beside t pairs holders (Holder h) = nat_le 1 h.0 && nat_le h.0 holders
stands_beside t pairs holders (Clear f) = has_clear_key t pairs f.0
stands_beside t pairs holders (Sub f) = is_some (folder_entry t f.0)
stands_beside t pairs holders (Back f) = is_some (folder_entry t f.0)
stands_beside t pairs holders (Files f) = is_some (folder_entry t f.0)
stands_beside t pairs holders (Data f) = is_some (folder_entry t f.0)
stands_beside t pairs holders (File x) = has_file t (Some x.0)

-- the five roles of the folder are in the set
abbrev pub has_folder_roles : List Role → ℕ → Bool
has_folder_roles keyed f = list_all (has same_role keyed) (folder_roles f)

-- the place is one of the variants of roles that have rows of keys, that may be marked
abbrev pub is_key_place : ℕ → Bool
is_key_place place = nat_le 1 place && nat_le place 7

abbrev pub is_mark_place : ℕ → Bool
is_mark_place place = nat_le 2 place && nat_le place 7
