use Rattle.std.proofs.Common.{map, take}
use Rattle.std.specs.List.{flat_map}
use Rattle.commit_journal.specs.Placed.{plain_placed}
use Rattle.log_visits.specs.declared.last_contents.ContentHead.{ContentHead}
use Rattle.log_visits.specs.declared.last_links.LinkHead.{LinkHead}
use Rattle.log_visits.specs.Spotted.{HasContentSpot, HasLinkSpot, placed_contents, placed_links}
use Rattle.log_visits.proofs.indexed_log.IndexedLog.of.Given as goal

abbrev pub invariant-loop-position : goal.invariant-loop-position
invariant-loop-position l = record {
  links : (head : LinkHead) → HasLinkSpot (map plain_placed l.log) l.links head (flat_map placed_links (take l.position (map plain_placed l.log)));
  contents : (head : ContentHead) → HasContentSpot (map plain_placed l.log) l.contents head (flat_map placed_contents (take l.position (map plain_placed l.log)));
}
