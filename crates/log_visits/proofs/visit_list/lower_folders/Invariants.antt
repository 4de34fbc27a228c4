use Rattle.std.proofs.Common.{◌≡◌, filter, take}
use Rattle.log_visits.specs.Sights.{is_lower}
use Rattle.log_visits.proofs.visit_list.lower_folders.Given as goal

abbrev pub invariant-loop-sight : goal.invariant-loop-sight
invariant-loop-sight l = l.found.items ≡ filter is_lower (take l.sight-index l.sights)
