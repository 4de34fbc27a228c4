use Rattle.std.proofs.Common.{[], ◌∷◌, ◌++◌, length, Some, sym, refl, ap, ◌∙◌, length-append}
use Rattle.std.proofs.lemmas.Slice.Zip.{AllZip-long, zip_turn}
use Rattle.std.specs.Slice.Iter.{iter_rest}
use Rattle.std.specs.Iterator.Adapters.{zip_first, zip_second}
use Rattle.log_index.proofs.Zipped.{one_pair_more, zipped_at}
use Rattle.log_index.proofs.spots.spots_of.Goals as goal

pub returns-then-all-rows : goal.returns-then-all-rows
returns-then-all-rows g c = λ are. absurd (c.if-all-rows.true (sym (AllZip-long (g.S.Spot.is_row_of c.args.last) c.args.all.now c.args.rows.now are)))

pub returns-in_default : goal.returns-in_default
returns-in_default g c = λ are.
    let turn = zip_turn c.args.all.now c.args.rows.now c.loop-of.yielded c.into_iter-of-iterator.result c.loop-of.of-iterator c.next.new.self (Some (c.in-Some.of, c.in-Some.row))
    (ap (λ s. iter_rest (zip_first s)) c.into_iter-of-iterator.ensures.into_iter_gives ∙ ap iter_rest c.zip-of-items.ensures.first ∙ c.iter.ensures.rest) (ap (λ s. iter_rest (zip_second s)) c.into_iter-of-iterator.ensures.into_iter_gives ∙ c.zip-of-items.ensures.second.0)
    c.loop-of.yielded_by (c.in-Some.of, c.in-Some.row) refl c.in-Some.ensures.steps in
    let at = zipped_at (g.S.Spot.is_row_of c.args.last) c.args.all.now c.args.rows.now (length c.loop-of.yielded) c.in-Some.of.now c.in-Some.row.now are turn.0 in
    c.in_default.ensures (rw (turn.2 c.in-Some.of.now, turn.3 c.in-Some.row.now) at)

pub loop-of-preserved : goal.loop-of-preserved
loop-of-preserved g c =
    let n = length c.loop-of.yielded in
    let turn = zip_turn c.args.all.now c.args.rows.now c.loop-of.yielded c.into_iter-of-iterator.result c.loop-of.of-iterator c.next.new.self (Some (c.in-Some.of, c.in-Some.row))
    (ap (λ s. iter_rest (zip_first s)) c.into_iter-of-iterator.ensures.into_iter_gives ∙ ap iter_rest c.zip-of-items.ensures.first ∙ c.iter.ensures.rest) (ap (λ s. iter_rest (zip_second s)) c.into_iter-of-iterator.ensures.into_iter_gives ∙ c.zip-of-items.ensures.second.0)
    c.loop-of.yielded_by (c.in-Some.of, c.in-Some.row) refl c.in-Some.ensures.steps in
    let kept = c.loop-of.invariant in
    let read = c.in-Some-of_row.ensures in
    let more = one_pair_more (g.S.Spot.is_row_of c.args.last) (g.S.Spot.is_of c.args.last) g.S.Spot.row_of c.args.all.now c.args.rows.now c.loop-of.spots.items c.push.new.self.items
    n (length (c.loop-of.yielded ++ (c.in-Some.of, c.in-Some.row) ∷ [])) c.in-Some.of.now c.in-Some.row.now c.in-Some-of_row.spot
    (length-append c.loop-of.yielded ((c.in-Some.of, c.in-Some.row) ∷ [])) turn.0 turn.1 (turn.2 c.in-Some.of.now) (turn.3 c.in-Some.row.now)
    read.0 read.1 read.2 c.in_ok-push.ensures.items kept.spelled kept.spots kept.rows in
    record { spelled = more.0; spots = more.1; rows = more.2 }
