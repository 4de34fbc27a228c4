use Rattle.std.proofs.Common.{◌≡◌, ◌++◌, ◌||◌, filter}
use Rattle.std.specs.HashSet.{contains}
use Rattle.log_visits.specs.Sights.{same_number}
use Rattle.folder_nodes.specs.declared.rows.FileRow.{FileRow}
use Rattle.holder_client.proofs.file_rows.files_in.Given as goal

abbrev pub invariant-loop-row : goal.invariant-loop-row
invariant-loop-row l =
    l.found.items ++ filter (λ (r : FileRow). contains same_number l.folders r.folder.0 || contains same_number l.numbers r.id.0) l.row-iterator
    ≡ filter (λ (r : FileRow). contains same_number l.folders r.folder.0 || contains same_number l.numbers r.id.0) l.fn.files
