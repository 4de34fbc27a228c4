use Rattle.std.proofs.Common.{◌≡◌, ◌++◌, map, take}
use Rattle.log_visits.specs.Listing.{from_parent}
use Rattle.log_visits.proofs.visit_list.push_lower.Given as goal

abbrev pub invariant-loop-sight : goal.invariant-loop-sight
invariant-loop-sight l = l.visits.items ≡ l.initial.visits.items ++ map from_parent (take l.sight-index l.folders)
