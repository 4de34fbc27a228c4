use Rattle.std.proofs.Common.{drop, map}
use Rattle.std.specs.List.{AllByRecursion}
use Rattle.log_visits.specs.Holding.{ArePresent, AreSized}
use Rattle.log_visits.specs.Opening.{HasItsKind, plain_visit}
use Rattle.log_visits.proofs.Opens.{ArePassed}
use Rattle.log_visits.proofs.opening.visit_part.Given as goal

abbrev pub invariant-loop-visit : goal.invariant-loop-visit
invariant-loop-visit g l = record {
  kinds : AllByRecursion HasItsKind (map plain_visit (drop l.visit-index l.visits));
  present : ArePresent l.state.keys.keys l.view.ring;
  sized : AreSized l.view.names;
  stays : g.R.Records.stays l.fn.source l.source;
  visited : g.R.Records.shows l.records l.fn.source → ArePassed l.state (g.R.Records.log l.records) (map plain_visit l.visits) l.initial.view (map plain_visit (drop l.visit-index l.visits)) l.view;
}
