use Rattle.std.proofs.Common.{◌≡◌, List, take}
use Rattle.commit_journal.specs.Placed.{PlainPlaced, plain_placed}
use Rattle.log_visits.specs.Spots.{IsAt}
use Rattle.log_visits.specs.Spotted.{ContentsAreSpotted, placed_contents}
use Rattle.log_visits.proofs.record_spots.note_contents_at.Given as goal

abbrev pub invariant-loop-content : goal.invariant-loop-content
invariant-loop-content l = record {
  index : l.index ≡ l.content-index;
  noted : (log : List PlainPlaced) → IsAt log l.position (plain_placed l.placed) →
      ContentsAreSpotted log l.initial.spots l.spots (take l.content-index (placed_contents (plain_placed l.placed)));
}
