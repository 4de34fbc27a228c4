use Rattle.log_visits.proofs.WayDown.{WayTo}
use Rattle.group_book.proofs.paths.way_to.Given as goal

abbrev pub invariant-loop-climbed : goal.invariant-loop-climbed
invariant-loop-climbed l = WayTo l.shape.tree l.fn.f.0 l.way.items l.here.0 l._climbed
