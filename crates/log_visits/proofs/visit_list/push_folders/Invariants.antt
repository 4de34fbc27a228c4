use Rattle.std.proofs.Common.{◌≡◌, ◌++◌, take}
use Rattle.std.specs.List.{flat_map}
use Rattle.log_visits.specs.Listing.{part_of}
use Rattle.log_visits.proofs.visit_list.push_folders.Given as goal

abbrev pub invariant-loop-sight : goal.invariant-loop-sight
invariant-loop-sight l = l.visits.items ≡ l.initial.visits.items ++ flat_map (part_of l.viewer l.part) (take l.sight-index l.sights)
