use Rattle.std.proofs.Common.{◌≡◌, ℕ, take}
use Rattle.std.specs.HashSet.{contains}
use Rattle.std.specs.List.{list_any}
use Rattle.folder_nodes.specs.Titles.{tree_store}
use Rattle.holder_client.specs.Beside.{is_entry_at}
use Rattle.log_visits.specs.Sights.{same_number}
use Rattle.holder_client.proofs.opening_path.entries_at.Given as goal

abbrev pub invariant-loop-entry : goal.invariant-loop-entry
invariant-loop-entry l = (x : ℕ) → contains same_number l.numbers x ≡ list_any (is_entry_at (tree_store l.shape.tree l.names) l.path x) (take l.entry-index l.entries)
