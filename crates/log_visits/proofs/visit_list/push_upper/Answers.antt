use Rattle.std.proofs.Common.{◌++◌, ap, ◌∙◌, arith}
use Rattle.std.specs.List.{flat_map}
use Rattle.std.proofs.lemmas.List.{take_all}
use Rattle.log_visits.specs.Listing.{from_below}
use Rattle.log_visits.specs.declared.sights.Sight.{Sight}
use Rattle.log_visits.proofs.Lasts.{item_at}
use Rattle.log_visits.proofs.ListedVisits.{flat_more}
use Rattle.log_visits.proofs.visit_list.push_upper.Goals as goal

pub loop-sight-preserved : goal.loop-sight-preserved
loop-sight-preserved c = λ ups are.
    let folders = c.args.folders.now in
    let i = c.loop-sight.sight-index in
    flat_more (λ (x : Sight). from_below ups x.folder) folders i _ c.args.visits.now.items c.loop-sight.visits.items c.push_from.new.visits.items c.loop-sight-test.true (item_at folders i _ _ c.loop-sight-test.true)
    (c.loop-sight.invariant ups are) (c.in_ok-push_from.ensures ups are)

pub returns : goal.returns
returns c = λ ups are.
    c.loop-sight.invariant ups are ∙ ap (λ l. c.args.visits.now.items ++ flat_map (λ (x : Sight). from_below ups x.folder) l) (take_all c.loop-sight.sight-index c.args.folders.now (omega arith))
