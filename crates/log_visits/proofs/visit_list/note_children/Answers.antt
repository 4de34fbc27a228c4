use Rattle.std.proofs.Common.{◌++◌, get_or, take, subst, refl, false, arith}
use Rattle.std.specs.List.{flat_map}
use Rattle.std.proofs.lemmas.List.{take_all}
use Rattle.log_visits.specs.Listing.{AreFirst, child_edges}
use Rattle.log_visits.specs.declared.sights.Sight.{Sight}
use Rattle.log_visits.proofs.Lasts.{item_at}
use Rattle.log_visits.proofs.ListedVisits.{flat_more}
use Rattle.log_visits.proofs.visit_list.note_children.Goals as goal

pub loop-sight-preserved : goal.loop-sight-preserved
loop-sight-preserved c = λ so_far are.
    let sights = c.args.sights.now in
    let i = c.loop-sight.sight-index in
    let other : Sight = record { folder = record { 0 = 0 }; parent = 0; depth = 0; entry = false; allowed = false; named = false } in
    let x : Sight = get_or sights i other in
    let before = so_far ++ flat_map child_edges (take i sights) in
    subst (AreFirst c.note_child.new.first)
    (flat_more child_edges sights i x so_far before (before ++ child_edges x) c.loop-sight-test.true (item_at sights i other x c.loop-sight-test.true) refl refl)
    (c.in_ok-note_child.ensures before (c.loop-sight.invariant so_far are))

pub returns : goal.returns
returns c = λ so_far are.
    subst (λ l. AreFirst c.loop-sight.first (so_far ++ flat_map child_edges l)) (take_all c.loop-sight.sight-index c.args.sights.now (omega arith)) (c.loop-sight.invariant so_far are)
