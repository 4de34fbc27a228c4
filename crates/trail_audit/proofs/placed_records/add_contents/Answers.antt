use Rattle.std.proofs.Common.{◌≡◌, get_or, length, map, sym, ap, subst, arith}
use Rattle.std.proofs.lemmas.List.{append-nil}
use Rattle.std.proofs.lemmas.List.Elements.{All-get_or}
use Rattle.std.proofs.lemmas.List.Sums.{sum_by_more, sum_by_more_le}
use Rattle.record_format.specs.Plain.{plain_content}
use Rattle.record_format.specs.Sizes.{content_size}
use Rattle.record_format.specs.Spellable.{IsContent}
use Rattle.log_visits.specs.Placing.{contents_at}
use Rattle.log_visits.proofs.Lasts.{mapped_item}
use Rattle.trail_audit.proofs.Listed.{more_contents}
use Rattle.trail_audit.proofs.placed_records.add_contents.Goals as goal

pub loop-content-init : goal.loop-content-init
unfolding contents_at
loop-content-init c = record { place = omega arith; added = sym (append-nil c.args.found.now.items) }

pub overflow_add-at-in-loop-content : goal.overflow_add-at-in-loop-content
overflow_add-at-in-loop-content c =
    let contents = c.args.contents.now in
    let plain = map plain_content contents in
    let i = c.loop-content.content-index in
    let content = c.content-item.result in
    let item = mapped_item contents i content c.loop-content-test.true c.content-item.is in
    let fits = sum_by_more_le content_size plain i (plain_content content) item.0 in
    let size : content_size (plain_content content) ≡ content_size (get_or plain i (plain_content content)) = ap content_size item.1 in
    omega (arith, fits, size, c.loop-content.invariant.place, c.requires.end, ap length c.as_slice.ensures)

pub loop-content-preserved : goal.loop-content-preserved
loop-content-preserved c =
    let contents = c.args.contents.now in
    let plain = map plain_content contents in
    let i = c.loop-content.content-index in
    let content = c.content-item.result in
    let item = mapped_item contents i content c.loop-content-test.true c.content-item.is in
    let more = sum_by_more content_size plain i (plain_content content) item.0 in
    let size : content_size (plain_content content) ≡ content_size (get_or plain i (plain_content content)) = ap content_size item.1 in
    record {
      place = omega (arith, more, size, c.loop-content.invariant.place, ap length c.as_slice.ensures);
      added = more_contents c.loop-content.found.items c.push.new.self.items c.args.found.now.items c.args.batch c.args.first c.loop-content.at plain i (plain_content content)
          item.0 c.loop-content.invariant.place item.1 c.loop-content.invariant.added c.in_ok-push.ensures.items;
    }

pub invariant_of-push : goal.invariant_of-push
invariant_of-push c =
    let contents = c.args.contents.now in
    let i = c.loop-content.content-index in
    let content = c.content-item.result in
    let item = mapped_item contents i content c.loop-content-test.true c.content-item.is in
    subst IsContent (sym item.1) (All-get_or IsContent (map plain_content contents) i (plain_content content) item.0 c.requires.form)
