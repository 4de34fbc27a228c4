use Rattle.std.proofs.Common.{◌+◌, ◌++◌, ◌∙◌, List, ap, subst, sym}
use Rattle.commit_journal.specs.Placed.{plain_placed}
use Rattle.log_visits.specs.Placing.{PlacedContent}
use Rattle.log_visits.specs.Spots.{IsAt}
use Rattle.log_visits.specs.Spotted.{HasContentSpot}
use Rattle.log_visits.proofs.Spotted.{all_contents, content_spotted}
use Rattle.log_visits.proofs.record_spots.note_contents_at.Goals as goal

pub loop-content-preserved : goal.loop-content-preserved
loop-content-preserved c = record {
  index = ap (λ n. n + 1) c.loop-content.invariant.index;
  noted = λ log at q so_far has.
      content_spotted c.args.placed.now c.contents_of-content-items.result.now log c.loop-content.spots c.insert.new.self c.head_of.result c.in_ok-of.field-0 c.loop-content.content-index c.content-item.result
      c.contents_of-content-items.ensures (subst (λ n. IsAt log n (plain_placed c.args.placed.now)) (sym c.in_ok-of.ensures.position) at) (c.in_ok-of.ensures.index ∙ c.loop-content.invariant.index) c.loop-content-test.true c.content-item.is c.head_of.ensures c.in_ok-insert.ensures q so_far (c.loop-content.invariant.noted log at q so_far has);
}

pub returns : goal.returns
returns c = λ log at q so_far has.
    subst (λ (xs : List PlacedContent). HasContentSpot log c.loop-content.spots q (so_far ++ xs)) (all_contents c.args.placed.now c.contents_of-content-items.result.now c.loop-content.content-index c.contents_of-content-items.ensures c.loop-content-test.false)
    (c.loop-content.invariant.noted log at q so_far has)
