use Rattle.std.proofs.Common.{◌≡◌, ◌++◌, map, take}
use Rattle.log_visits.specs.Listing.{entry_file_link}
use Rattle.log_visits.proofs.visit_list.push_entry_files.Given as goal

abbrev pub invariant-loop-entry : goal.invariant-loop-entry
invariant-loop-entry l = l.visits.items ≡ l.initial.visits.items ++ map (entry_file_link l.viewer) (take l.entry-index l.entries)
