-- The verdict on a store's bytes, for each way to open them. This project's own, docs/FORMAT.md, "Reading" and "Opening
-- for writing".
use Rattle.std.specs.Prelude.{ℕ, Bool, ◌&&◌, if◌then◌else◌, List, [], ◌∷◌, ◌++◌, map, filter, find, Option, None, Some, Result, Ok, Err}
use Rattle.std.specs.Str.{bytes_eq}
use Rattle.cry_base.specs.Layout.{header_len}
use Rattle.cry_base.specs.Naming.{is_path, parent_path}
use Rattle.cry_base.specs.Store.{Store, FolderEntry, FileEntry, folder_node, path_of}
use Rattle.cry_base.specs.declared.client.Bundle.{Bundle}
use Rattle.cry_base.specs.declared.roles.Role.TheVariants.{Owner}
use Rattle.commit_journal.specs.Answering.{Fault, Damaged}
use Rattle.commit_journal.specs.Logs.{writer_log}
use Rattle.commit_journal.specs.Placed.{PlainPlaced}
use Rattle.role_graph.specs.Rights.{Who, file_allowed_to, named_to}
use Rattle.role_graph.specs.Rights.Who.{TheOwner}
use Rattle.move_plan.specs.Fitting.{folder_stands}
use Rattle.log_visits.specs.Judging.{Failure, OfBytes, Unseen, then_on, of_bytes, read_through, bundle_log, read_with, who_of}
use Rattle.log_visits.specs.Judging.{opened_first, shown_with}
use Rattle.log_visits.specs.View.{Line, line_path, folder_line, file_line}
use Rattle.log_visits.specs.Visits.{visits_to_names, all_visits, file_visits, files_that, writing_visits}
use Rattle.log_visits.specs.Visiting.{Reading, Opened, visit_all}

-- the lines of the folders that are named
unfoldable pub folder_lines : Store → Who → List Line
folder_lines s who = map (folder_line s who) (filter (λ (e : FolderEntry). named_to s who e.id) s.folders)

-- the file is allowed, and its folder has the path that this path, without its last name, is
unfoldable pub is_beside : Store → Who → List ℕ → FileEntry → Bool
is_beside s who path e = is_path path && (file_allowed_to s who e && bytes_eq (path_of s (folder_node e.folder)) (parent_path path))

-- the lines of such files
unfoldable pub lines_beside : Store → Who → List ℕ → List Line
lines_beside s who path = map (file_line s) (filter (is_beside s who path) s.files)

-- the first line with a path
unfoldable pub line_at : List ℕ → List Line → Option Line
line_at path lines = find (λ l. bytes_eq (line_path l) path) lines

-- the line if there is one, and else what comes next
unfoldable pub or_else : Option Line → Result Line Failure → Result Line Failure
or_else (Some l) next = Ok l
or_else None next = next

-- the line of a file with the path, once the files beside it are visited
unfoldable pub file_with : Reading → Opened → Who → List ℕ → Result Line Failure
file_with r o who path =
    then_on (of_bytes (visit_all r (file_visits r.stand.store who (files_that (is_beside o.store who path) o.store)) o)) (λ after.
    or_else (line_at path (lines_beside after.store who path)) (Err Unseen))

-- the one line with a path: that of a folder that is named, or else of a file
unfoldable pub line_with : Bundle → List ℕ → Result (List PlainPlaced) Fault → Result Line Failure
line_with bundle path log =
    then_on (read_with bundle log) (λ r.
    then_on (of_bytes (visit_all r (visits_to_names r.stand.store (who_of bundle)) (opened_first bundle r))) (λ o.
    or_else (line_at path (folder_lines o.store (who_of bundle))) (file_with r o (who_of bundle) path)))

-- that line of a store's bytes
unfoldable pub line_shown : Bundle → List ℕ → List ℕ → Result Line Failure
line_shown bundle path bytes = line_with bundle path (bundle_log bundle bytes)

-- a log that was read, and all that was opened of it
pub record OpenStore : Type 0 where
  pub reading : Reading
  pub opened : Opened

-- the root stands; a log that doesn't make it is damaged behind the header
unfoldable pub with_root : Reading → Result Reading Failure
with_root r = if folder_stands r.stand.store 1 then Ok r else Err (OfBytes (Damaged header_len))

-- opening for writing: every visit of the owner's, and then the keys of the holders and the Clearances of files with grants
unfoldable pub open_with : List ℕ → Result (List PlainPlaced) Fault → Result OpenStore Failure
open_with owner log =
    then_on (then_on (of_bytes (read_through log)) with_root) (λ r.
    then_on (of_bytes (visit_all r (all_visits r.stand.store TheOwner
    ++ writing_visits r.stand.store) (record { keys = (Owner, owner) ∷ []; store = r.stand.store }))) (λ o.
    Ok (record { reading = r; opened = o })))

-- a store's bytes opened for writing
unfoldable pub opened_store : List ℕ → List ℕ → Result OpenStore Failure
opened_store owner bytes = open_with owner (writer_log owner bytes)

-- what an audit reads before it opens a record. Which of several bad records it then tells is free
unfoldable pub audited : Bundle → List ℕ → Result Reading Failure
audited bundle bytes = read_with bundle (bundle_log bundle bytes)

-- what is asked of a store's bytes: the view, the line of one path, an audit, or to be opened for writing under the owner's
-- key
pub data Asking : Type 0 where
  ToList : Bundle → Asking
  ToOpen : Bundle → (path : List ℕ) → Asking
  ToAudit : Bundle → Asking
  ToWrite : (owner : List ℕ) → Asking

-- the failure, if it is one
unfoldable pub failure_of : {A : Type 0} → Result A Failure → Option Failure
failure_of (Ok x) = None
failure_of (Err failure) = Some failure

-- the verdict: the first test that fails, with its answer, and none where all pass. For an audit it tells of no record
unfoldable pub verdict : Asking → List ℕ → Option Failure
verdict (ToList bundle) bytes = failure_of (shown_with bundle bytes)
verdict (ToOpen bundle path) bytes = failure_of (line_shown bundle path bytes)
verdict (ToAudit bundle) bytes = failure_of (audited bundle bytes)
verdict (ToWrite owner) bytes = failure_of (opened_store owner bytes)

-- the log that is read for it
unfoldable pub asked_log : Asking → List ℕ → Result (List PlainPlaced) Fault
asked_log (ToList bundle) bytes = bundle_log bundle bytes
asked_log (ToOpen bundle path) bytes = bundle_log bundle bytes
asked_log (ToAudit bundle) bytes = bundle_log bundle bytes
asked_log (ToWrite owner) bytes = writer_log owner bytes
