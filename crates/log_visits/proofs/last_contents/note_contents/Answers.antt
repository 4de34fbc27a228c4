use Rattle.std.proofs.Common.{◌≡◌, ◌++◌, get_or, length, map, take, Some, refl, sym, ap, subst, ◌∙◌, arith}
use Rattle.std.proofs.lemmas.List.{append-nil}
use Rattle.std.proofs.lemmas.List.Sums.{sum_by_more, sum_by_more_le}
use Rattle.std.proofs.lemmas.Option.{slice_get-get_or}
use Rattle.record_format.specs.Plain.{plain_content}
use Rattle.record_format.specs.Sizes.{content_size}
use Rattle.log_visits.specs.Indexed.{HasLastContent}
use Rattle.log_visits.specs.Placing.{contents_at}
use Rattle.log_visits.specs.Spots.{IsAt}
use Rattle.log_visits.proofs.Lasts.{mapped_item, more_contents}
use Rattle.log_visits.proofs.last_contents.note_contents.Goals as goal

pub loop-content-init : goal.loop-content-init
unfolding contents_at
loop-content-init c = record {
  index = refl;
  place = omega arith;
  noted = λ log p at carries q so_far has. subst (HasLastContent log c.args.last.now q) (sym (append-nil so_far)) has;
  starts = λ starts have at. have;
}

pub overflow_add-at-in-loop-content : goal.overflow_add-at-in-loop-content
overflow_add-at-in-loop-content c =
    let contents = c.args.contents.now in
    let plain = map plain_content contents in
    let i = c.loop-content.content-index in
    let content = c.content-item.result in
    let item = mapped_item contents i content c.loop-content-test.true c.content-item.is in
    let fits = sum_by_more_le content_size plain i (plain_content content) item.0 in
    let size : content_size (plain_content content) ≡ content_size (get_or plain i (plain_content content)) = ap content_size item.1 in
    omega (arith, fits, size, c.loop-content.invariant.place, c.requires.end, ap length c.as_slice.ensures)

pub loop-content-preserved : goal.loop-content-preserved
loop-content-preserved c =
    let contents = c.args.contents.now in
    let plain = map plain_content contents in
    let i = c.loop-content.content-index in
    let content = c.content-item.result in
    let item = mapped_item contents i content c.loop-content-test.true c.content-item.is in
    let more = sum_by_more content_size plain i (plain_content content) item.0 in
    let size : content_size (plain_content content) ≡ content_size (get_or plain i (plain_content content)) = ap content_size item.1 in
    let here : IsAt plain c.loop-content.index (plain_content content) =
    subst (λ n. IsAt plain n (plain_content content)) (sym c.loop-content.invariant.index) (slice_get-get_or plain i (plain_content content) item.0 ∙ ap Some (sym item.1))
    in
    record {
      index = omega (arith, c.loop-content.invariant.index);
      place = omega (arith, more, size, c.loop-content.invariant.place, ap length c.as_slice.ensures);
      noted = λ log p at carries q so_far has.
          more_contents log c.note_content.new.last q so_far c.args.batch c.args.first c.loop-content.at plain i (plain_content content) item.0 c.loop-content.invariant.place item.1
          (c.in_ok-note_content.ensures.noted log
          (p, at, subst (λ l. IsAt l c.loop-content.index (plain_content content)) (sym carries) here) q (so_far ++ contents_at c.args.batch c.args.first (take i plain)) (c.loop-content.invariant.noted log p at carries q so_far has));
      starts = λ starts have at. c.in_ok-note_content.ensures.starts starts (c.loop-content.invariant.starts starts have at) at;
    }
