use Rattle.std.proofs.Common.{take}
use Rattle.closure_laws.proofs.Searching.{AreGrouped}
use Rattle.closure_laws.proofs.trail_search.by_end.Given as goal

abbrev pub invariant-loop-link : goal.invariant-loop-link
invariant-loop-link l = AreGrouped l.groups (take l.link-index l.links)
