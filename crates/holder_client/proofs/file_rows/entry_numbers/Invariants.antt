use Rattle.std.proofs.Common.{◌≡◌, ℕ, take}
use Rattle.std.specs.HashSet.{contains}
use Rattle.std.specs.List.{list_any}
use Rattle.holder_client.specs.Filed.{is_entry}
use Rattle.log_visits.specs.Sights.{same_number}
use Rattle.holder_client.proofs.file_rows.entry_numbers.Given as goal

abbrev pub invariant-loop-entry : goal.invariant-loop-entry
invariant-loop-entry l = (x : ℕ) → contains same_number l.numbers x ≡ list_any (is_entry x) (take l.entry-index l.entries)
