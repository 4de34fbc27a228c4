use Rattle.std.proofs.Common.{◌≡◌, ◌++◌}
use Rattle.std.specs.List.{flat_map}
use Rattle.log_visits.specs.Listing.{clearance_of}
use Rattle.log_visits.proofs.visit_list.push_clearances.Given as goal

abbrev pub invariant-loop-row : goal.invariant-loop-row
invariant-loop-row l =
    l.visits.items ++ flat_map (clearance_of l.grants.pairs) l.row-iterator ≡ l.initial.visits.items ++ flat_map (clearance_of l.grants.pairs) l.fn.files
