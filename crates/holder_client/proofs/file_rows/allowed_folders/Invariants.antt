use Rattle.std.proofs.Common.{◌≡◌, ℕ, take}
use Rattle.std.specs.HashSet.{contains}
use Rattle.std.specs.List.{list_any}
use Rattle.log_visits.specs.Sights.{opens, same_number}
use Rattle.holder_client.proofs.file_rows.allowed_folders.Given as goal

abbrev pub invariant-loop-sight : goal.invariant-loop-sight
invariant-loop-sight l = (f : ℕ) → contains same_number l.folders f ≡ list_any (opens f) (take l.sight-index l.sights)
