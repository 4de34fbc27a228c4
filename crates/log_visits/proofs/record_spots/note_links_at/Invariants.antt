use Rattle.std.proofs.Common.{◌≡◌, List, take}
use Rattle.commit_journal.specs.Placed.{PlainPlaced, plain_placed}
use Rattle.log_visits.specs.Spots.{IsAt}
use Rattle.log_visits.specs.Spotted.{LinksAreSpotted, placed_links}
use Rattle.log_visits.proofs.record_spots.note_links_at.Given as goal

abbrev pub invariant-loop-link : goal.invariant-loop-link
invariant-loop-link l = record {
  index : l.index ≡ l.link-index;
  noted : (log : List PlainPlaced) → IsAt log l.position (plain_placed l.placed) →
      LinksAreSpotted log l.initial.spots l.spots (take l.link-index (placed_links (plain_placed l.placed)));
}
