use Rattle.std.proofs.Common.{◌≡◌, ◌+◌, ◌++◌, map, take}
use Rattle.std.specs.List.{sum_by}
use Rattle.record_format.specs.Plain.{plain_content}
use Rattle.record_format.specs.Sizes.{content_size}
use Rattle.log_visits.specs.Placing.{contents_at}
use Rattle.trail_audit.proofs.placed_records.add_contents.Given as goal

abbrev pub invariant-loop-content : goal.invariant-loop-content
invariant-loop-content l = record {
  place : l.at ≡ l.first + sum_by content_size (take l.content-index (map plain_content l.contents));
  added : l.found.items ≡ l.initial.found.items ++ contents_at l.batch l.first (take l.content-index (map plain_content l.contents));
}
