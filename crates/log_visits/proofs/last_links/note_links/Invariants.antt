use Rattle.std.proofs.Common.{◌≡◌, ◌+◌, ◌*◌, take}
use Rattle.log_visits.specs.Indexed.{LinksAreNoted}
use Rattle.log_visits.specs.Placing.{links_at}
use Rattle.log_visits.proofs.last_links.note_links.Given as goal

abbrev pub invariant-loop-link : goal.invariant-loop-link
invariant-loop-link l = record {
  place : l.at ≡ l.first + 98 * l.link-index;
  noted : LinksAreNoted l.initial.last l.last (links_at l.batch l.first (take l.link-index l.links));
}
