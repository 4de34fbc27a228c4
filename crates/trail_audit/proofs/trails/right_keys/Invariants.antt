use Rattle.std.proofs.Common.{◌-◌, ◌^◌, List, take}
use Rattle.log_visits.specs.Placing.{PlacedLink}
use Rattle.trail_audit.specs.Grouped.{HasGroups, key_source, source_of_link}
use Rattle.trail_audit.proofs.Followed.{AreFoundSoFar}
use Rattle.trail_audit.proofs.trails.right_keys.Given as goal

abbrev pub invariant-loop-done : goal.invariant-loop-done
invariant-loop-done l = record {
  found : (links : List PlacedLink) → HasGroups source_of_link l.groups links → AreFoundSoFar links l.fn.bundle l.done l.known.keys.items;
  grouped : HasGroups key_source l.known.groups l.known.keys.items;
  openers : (links : List PlacedLink) → HasGroups source_of_link l.groups links → HasGroups key_source l.openers (take l.done l.known.keys.items);
}

abbrev pub decreases-loop-done : goal.decreases-loop-done
decreases-loop-done l = 2 ^ 64 - l.done
