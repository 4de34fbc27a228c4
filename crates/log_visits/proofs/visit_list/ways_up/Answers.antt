use Rattle.std.proofs.Common.{[]}
use Rattle.std.specs.List.{flat_map}
use Rattle.log_visits.specs.Listing.{child_edges}
use Rattle.log_visits.proofs.ListedVisits.{none_first}
use Rattle.log_visits.proofs.visit_list.ways_up.Goals as goal

pub returns : goal.returns
returns c = c.in_ok-note_entries.ensures (flat_map child_edges c.args.sights.now) (c.in_ok-note_children.ensures [] (none_first c.new-first.result c.new-first.ensures.empty))
