use Rattle.std.proofs.Common.{◌≡◌, ◌++◌, List, take}
use Rattle.std.specs.List.{flat_map}
use Rattle.cry_base.specs.declared.roles.Edge.{Edge}
use Rattle.log_visits.specs.Listing.{AreFirst, from_below}
use Rattle.log_visits.specs.declared.sights.Sight.{Sight}
use Rattle.log_visits.proofs.visit_list.push_upper.Given as goal

abbrev pub invariant-loop-sight : goal.invariant-loop-sight
invariant-loop-sight l = (ups : List Edge) → AreFirst l.first ups → l.visits.items ≡ l.initial.visits.items ++ flat_map (λ (x : Sight). from_below ups x.folder) (take l.sight-index l.folders)
