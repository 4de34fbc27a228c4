-- The files beside a path, as code finds them. This project's own, docs/FORMAT.md, "Reading".
use Rattle.std.specs.Prelude.{ℕ, Bool, ◌&&◌, ◌||◌, ◌==◌, List, Result}
use Rattle.std.specs.List.{list_any}
use Rattle.std.specs.Str.{bytes_eq}
use Rattle.cry_base.specs.Naming.{is_path, parent_path, spell_path}
use Rattle.cry_base.specs.Store.{Store, folder_names}
use Rattle.cry_base.specs.declared.client.Bundle.{Bundle}
use Rattle.folder_nodes.specs.declared.rows.FileRow.{FileRow}
use Rattle.log_visits.specs.Asking.{file_with, folder_lines, line_at, or_else}
use Rattle.log_visits.specs.Judging.{Failure, of_bytes, opened_first, then_on, who_of}
use Rattle.log_visits.specs.View.{Line}
use Rattle.log_visits.specs.Visiting.{Reading, visit_all}
use Rattle.log_visits.specs.Visits.{visits_to_names}
use Rattle.log_visits.specs.declared.entry_files.EntryFile.{EntryFile}
use Rattle.log_visits.specs.declared.sights.Sight.{Sight}

-- all in the folder may be read, and it has the path
abbrev pub is_open_at : Store → List ℕ → Sight → Bool
is_open_at t path x = x.allowed && bytes_eq (spell_path (folder_names t x.folder.0)) path

-- so, and the folder is this one
abbrev pub opens_at : Store → List ℕ → ℕ → Sight → Bool
opens_at t path f x = is_open_at t path x && (x.folder.0 == f)

-- the entry file's folder has the path
abbrev pub is_at : Store → List ℕ → EntryFile → Bool
is_at t path e = bytes_eq (spell_path (folder_names t e.folder.0)) path

-- so, and it is the entry file with this number
abbrev pub is_entry_at : Store → List ℕ → ℕ → EntryFile → Bool
is_entry_at t path x e = is_at t path e && (e.file.0 == x)

-- the row is of a file beside the path
abbrev pub is_row_beside : Store → List Sight → List EntryFile → List ℕ → FileRow → Bool
is_row_beside t sights entries path r =
    is_path path
    && (list_any (opens_at t (parent_path path) r.folder.0) sights || list_any (is_entry_at t (parent_path path) r.id.0) entries)

-- the line of a path of a log that was read, with the visits that it needs
abbrev pub path_opened : Bundle → List ℕ → Reading → Result Line Failure
path_opened bundle path r =
    then_on (of_bytes (visit_all r (visits_to_names r.stand.store (who_of bundle)) (opened_first bundle r))) (λ o.
    or_else (line_at path (folder_lines o.store (who_of bundle))) (file_with r o (who_of bundle) path))
