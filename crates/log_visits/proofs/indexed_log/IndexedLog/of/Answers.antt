use Rattle.std.proofs.Common.{◌≡◌, ◌≤◌, List, length, map, subst, take, arith}
use Rattle.std.specs.List.{flat_map}
use Rattle.std.proofs.lemmas.List.{length-map, take_all}
use Rattle.commit_journal.specs.Placed.{PlainPlaced, plain_placed}
use Rattle.log_visits.specs.Found.{is_of, is_sought}
use Rattle.log_visits.specs.Placing.{log_contents, log_links}
use Rattle.log_visits.specs.Spotted.{HasContentSpot, HasLinkSpot, content_spot, link_spot, placed_contents, placed_links}
use Rattle.log_visits.proofs.Lasts.{at_item, at_mapped}
use Rattle.log_visits.proofs.Spotted.{no_spots, spots_more}
use Rattle.log_visits.proofs.indexed_log.IndexedLog.of.Goals as goal

pub loop-position-init : goal.loop-position-init
loop-position-init c =
    let log = map plain_placed c.args.log.now in
    record {
      links = no_spots is_sought placed_links log (link_spot c.in_ok-links.links) c.in_ok-links.ensures;
      contents = no_spots (λ h. is_of h.kind h.object) placed_contents log (content_spot c.in_ok-contents.contents) c.in_ok-contents.ensures;
    }

pub loop-position-preserved : goal.loop-position-preserved
loop-position-preserved c =
    let log = map plain_placed c.args.log.now in
    let i = c.loop-position.position in
    let placed = c.index-log-position.result in
    let at = at_mapped plain_placed c.args.log.now i placed (at_item c.args.log.now i placed c.loop-position-test.true c.index-log-position.is) in
    record {
      links = spots_more is_sought placed_links log (link_spot c.loop-position.links) (link_spot c.note_links_at.new.spots) i (plain_placed placed) at (c.in_ok-note_links_at.ensures log at) c.loop-position.invariant.links;
      contents = spots_more (λ h. is_of h.kind h.object) placed_contents log (content_spot c.loop-position.contents) (content_spot c.note_contents_at.new.spots) i (plain_placed placed) at (c.in_ok-note_contents_at.ensures log at)
          c.loop-position.invariant.contents;
    }

pub invariant_of-result : goal.invariant_of-result
unfolding log_contents log_links
invariant_of-result c =
    let log = map plain_placed c.args.log.now in
    let n = c.loop-position.position in
    let long = length-map c.args.log.now plain_placed in
    let past : length log ≤ n = omega (arith, long, c.loop-position-test.false) in
    let all : take n log ≡ log = take_all n log past in (
      record {
        last_link = λ q. subst (λ (ps : List PlainPlaced). HasLinkSpot log c.loop-position.links q (flat_map placed_links ps)) all (c.loop-position.invariant.links q);
        last_content = λ q. subst (λ (ps : List PlainPlaced). HasContentSpot log c.loop-position.contents q (flat_map placed_contents ps)) all (c.loop-position.invariant.contents q);
      },
      c.requires,
    )
