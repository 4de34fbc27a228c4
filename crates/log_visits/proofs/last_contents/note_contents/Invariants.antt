use Rattle.std.proofs.Common.{◌≡◌, ◌+◌, List, map, take}
use Rattle.std.specs.List.{sum_by}
use Rattle.commit_journal.specs.Placed.{PlainPlaced}
use Rattle.commit_journal.specs.declared.past.Past.{Past}
use Rattle.record_format.specs.Plain.{plain_content}
use Rattle.record_format.specs.Sizes.{content_size}
use Rattle.log_visits.specs.Indexed.{ContentsAreNoted, HaveStarts, StartsAt}
use Rattle.log_visits.specs.Placing.{contents_at}
use Rattle.log_visits.specs.Spots.{IsAt, contents_in}
use Rattle.log_visits.proofs.last_contents.note_contents.Given as goal

abbrev pub invariant-loop-content : goal.invariant-loop-content
invariant-loop-content l = record {
  index : l.index ≡ l.content-index;
  place : l.at ≡ l.first + sum_by content_size (take l.content-index (map plain_content l.contents));
  noted : (log : List PlainPlaced) (p : PlainPlaced) → IsAt log l.position p → contents_in p.body ≡ map plain_content l.contents →
      ContentsAreNoted log l.initial.last l.last (contents_at l.batch l.first (take l.content-index (map plain_content l.contents)));
  starts : (starts : List Past) → HaveStarts l.initial.last starts → StartsAt starts l.position l.start → HaveStarts l.last starts;
}
