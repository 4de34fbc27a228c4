use Rattle.std.proofs.Common.{◌≡◌, filter, take}
use Rattle.log_visits.specs.Sights.{is_upper}
use Rattle.log_visits.proofs.visit_list.upper_folders.Given as goal

abbrev pub invariant-loop-sight : goal.invariant-loop-sight
invariant-loop-sight l = l.found.items ≡ filter is_upper (take l.sight-index l.sights)
