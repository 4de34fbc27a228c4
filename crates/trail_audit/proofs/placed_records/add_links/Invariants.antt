use Rattle.std.proofs.Common.{◌≡◌, ◌+◌, ◌*◌, ◌++◌, List, take}
use Rattle.log_visits.specs.Placing.{PlacedLink, links_at}
use Rattle.trail_audit.specs.Grouped.{HasGroups, source_of_link}
use Rattle.trail_audit.proofs.placed_records.add_links.Given as goal

abbrev pub invariant-loop-link : goal.invariant-loop-link
invariant-loop-link l = record {
  place : l.at ≡ l.first + 98 * l.link-index;
  grouped : (before : List PlacedLink) → HasGroups source_of_link l.initial.found before → HasGroups source_of_link l.found (before ++ links_at l.batch l.first (take l.link-index l.links));
}
