use Rattle.std.proofs.Common.{◌≡◌, ◌++◌, map, take}
use Rattle.closure_laws.specs.Found.{found_by}
use Rattle.closure_laws.proofs.trail_search.add_starts.Given as goal

abbrev pub invariant-loop-link : goal.invariant-loop-link
invariant-loop-link l = l.found.items ≡ l.fn.found.items ++ map (found_by l.place) (take l.link-index l.links)
