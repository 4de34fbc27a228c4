use Rattle.std.proofs.Common.{◌≡◌, ℕ, take}
use Rattle.std.specs.HashSet.{contains}
use Rattle.std.specs.List.{list_any}
use Rattle.log_visits.specs.Sights.{is_above, same_number}
use Rattle.log_visits.proofs.sights.above_grants.Given as goal

abbrev pub invariant-loop-number : goal.invariant-loop-number
invariant-loop-number l = (f : ℕ) → contains same_number l.above f ≡ list_any (is_above l.shape.tree f) (take l.number-index l.number-items)
