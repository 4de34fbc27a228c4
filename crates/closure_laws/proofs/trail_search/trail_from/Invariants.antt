use Rattle.std.proofs.Common.{◌<◌, length}
use Rattle.closure_laws.proofs.Searching.{LeadsTo}
use Rattle.closure_laws.proofs.trail_search.trail_from.Given as goal

abbrev pub invariant-loop-at : goal.invariant-loop-at
invariant-loop-at l = record {
  within : l.at < length l.found;
  trail : LeadsTo l.found l.fn.place l.at l.trail.items;
}

abbrev pub decreases-loop-at : goal.decreases-loop-at
decreases-loop-at l = l.at
