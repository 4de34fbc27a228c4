use Rattle.std.proofs.Common.{◌+◌, ◌++◌, ◌∙◌, List, ap, subst, sym}
use Rattle.commit_journal.specs.Placed.{plain_placed}
use Rattle.log_visits.specs.Placing.{PlacedLink}
use Rattle.log_visits.specs.Spots.{IsAt}
use Rattle.log_visits.specs.Spotted.{HasLinkSpot}
use Rattle.log_visits.proofs.Spotted.{all_links, link_spotted}
use Rattle.log_visits.proofs.record_spots.note_links_at.Goals as goal

pub loop-link-preserved : goal.loop-link-preserved
loop-link-preserved c = record {
  index = ap (λ n. n + 1) c.loop-link.invariant.index;
  noted = λ log at q so_far has.
      link_spotted c.args.placed.now c.links_of-link-items.result.now log c.loop-link.spots c.insert.new.self c.head_of.result c.in_ok-of.field-0 c.loop-link.link-index _
      c.links_of-link-items.ensures (subst (λ n. IsAt log n (plain_placed c.args.placed.now)) (sym c.in_ok-of.ensures.position) at) (c.in_ok-of.ensures.index ∙ c.loop-link.invariant.index) c.loop-link-test.true c.head_of.ensures c.in_ok-insert.ensures q so_far (c.loop-link.invariant.noted log at q so_far has);
}

pub returns : goal.returns
returns c = λ log at q so_far has.
    subst (λ (xs : List PlacedLink). HasLinkSpot log c.loop-link.spots q (so_far ++ xs)) (all_links c.args.placed.now c.links_of-link-items.result.now c.loop-link.link-index c.links_of-link-items.ensures c.loop-link-test.false)
    (c.loop-link.invariant.noted log at q so_far has)
