use Rattle.std.proofs.Common.{◌≡◌, take}
use Rattle.std.specs.List.{flat_map}
use Rattle.log_visits.specs.Entries.{entry_at}
use Rattle.log_visits.proofs.entry_files.holders_entries.Given as goal

abbrev pub invariant-loop-number : goal.invariant-loop-number
invariant-loop-number l = l.entries.items ≡ flat_map (entry_at l.shape.tree l.grants.pairs l.h.0) (take l.number-index l.number-items)
