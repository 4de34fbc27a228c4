use Rattle.std.proofs.Common.{◌-◌, ◌^◌}
use Rattle.closure_laws.specs.Found.{AreOpen}
use Rattle.closure_laws.proofs.Searching.{AreFoundSoFar}
use Rattle.closure_laws.proofs.trail_search.all_found.Given as goal

abbrev pub invariant-loop-done : goal.invariant-loop-done
invariant-loop-done l = record {
  found : AreFoundSoFar l.links l.fn.to.0 l.done l.found.items;
  open_groups : AreOpen l.links l.found.items l.groups;
}

abbrev pub decreases-loop-done : goal.decreases-loop-done
decreases-loop-done l = 2 ^ 64 - l.done
