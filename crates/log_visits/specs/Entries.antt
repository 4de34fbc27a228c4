-- The files that a holder comes into by grants on them alone, as code lists them. This project's own, docs/FORMAT.md, "Reading".
use Rattle.std.specs.Prelude.{◌≡◌, ℕ, Bool, List, [], ◌∷◌, Option, None, Some, cond, filter, map}
use Rattle.std.specs.List.{flat_map, list_any}
use Rattle.cry_base.specs.Clearances.{clear_number, file_of}
use Rattle.cry_base.specs.Store.{Store, FileEntry, FolderEntry, GrantEntry, file_entry, way_to_root}
use Rattle.cry_base.specs.declared.ids.FolderId.{FolderId}
use Rattle.grant_book.specs.Granted.{folders_of, is_grant}
use Rattle.log_visits.specs.declared.entry_files.EntryFile.{EntryFile}
use Rattle.log_visits.specs.Visits.{is_entry_file}
use Rattle.role_graph.specs.Rights.{Who}

-- an entry file of a store
abbrev pub entry_of : FileEntry → EntryFile
entry_of e = record {
  file = record { 0 = e.id };
  folder = record { 0 = e.folder };
  clearance = record { 0 = clear_number e.id };
}

-- these are the entry files, by their numbers
abbrev pub AreEntryFiles : Store → Who → List EntryFile → Type 0
AreEntryFiles s who entries = entries ≡ map entry_of (filter (is_entry_file s who) s.files)

-- whether all in the folder may be read, by a look at each folder above it
abbrev pub may_all : Store → List GrantEntry → ℕ → ℕ → Bool
may_all tree pairs h f = list_any (λ (e : FolderEntry). list_any (is_grant h e.id) pairs) (way_to_root tree f)

-- the file that stands with a number, as one with this clearance number; and the file that grants name by a number
abbrev pub file_with : FolderId → Option FileEntry → Option EntryFile
file_with clearance None = None
file_with clearance (Some e) = Some (record { file = record { 0 = e.id }; folder = record { 0 = e.folder }; clearance = clearance })

abbrev pub file_numbered : Store → FolderId → Option ℕ → Option EntryFile
file_numbered tree number None = None
file_numbered tree number (Some x) = file_with number (file_entry tree x)

abbrev pub file_named : Store → FolderId → Option EntryFile
file_named tree number = file_numbered tree number (file_of number.0)

-- the file, where not all in its folder may be read
abbrev pub entry_alone : Bool → EntryFile → List EntryFile
entry_alone may x = cond may [] (x ∷ [])

abbrev pub entry_if : Store → List GrantEntry → ℕ → Option EntryFile → List EntryFile
entry_if tree pairs h None = []
entry_if tree pairs h (Some x) = entry_alone (may_all tree pairs h x.folder.0) x

abbrev pub entry_at : Store → List GrantEntry → ℕ → FolderId → List EntryFile
entry_at tree pairs h number = entry_if tree pairs h (file_named tree number)

-- all that are found among the numbers on which the holder has a grant
abbrev pub entries_of : Store → List GrantEntry → ℕ → List EntryFile
entries_of tree pairs h = flat_map (entry_at tree pairs h) (folders_of pairs h)
