use Rattle.std.proofs.Common.{◌≡◌, ◌+◌, ◌-◌, [], ◌∷◌, subst, arith}
use Rattle.std.specs.Prelude.{IsErr}
use Rattle.cry_io.specs.Stops.{Torn, Written}
use Rattle.batch_log.specs.Moments.{Throughout, TornInto}
use Rattle.std.proofs.lemmas.Result.{on_err_weaker, on_ok_weaker}
use Rattle.commit_journal.specs.Handing.{Hands}
use Rattle.commit_journal.proofs.SlotsLeft.{slot_torn}
use Rattle.commit_journal.proofs.filling.fill_slot.Goals as goal

pub returns-clause-filled : goal.returns-clause-filled
returns-clause-filled g c =
    let slot = c.args.slot.now in
    let behind = c.requires.within.behind in
    let place : slot.place - 13 + 13 ≡ slot.place = omega (arith, behind) in
    on_ok_weaker c.unveil_found.result
    (λ written. λ x y x_is y_is. subst (λ n. Written n slot.veil x y) place (written x y x_is y_is))
    c.unveil_found.ensures.written

pub returns-clause-left : goal.returns-clause-left
returns-clause-left g c =
    let slot = c.args.slot.now in
    let behind = c.requires.within.behind in
    let place : slot.place - 13 + 13 ≡ slot.place = omega (arith, behind) in
    on_err_weaker c.unveil_found.result
    (λ torn. λ x y x_is y_is.
    let size = g.met.D.Disk.size_is_shown c.args.disk.now x x_is in
    let inside = c.requires.within.inside in
    slot_torn slot.place slot.veil x y (omega (arith, size, inside)) (c.requires.unfilled x x_is).differs
    (subst (λ n. Torn n 32 x y) place (torn x y x_is y_is)))
    c.unveil_found.ensures.torn

pub returns-clause-stops : goal.returns-clause-stops
returns-clause-stops g c x x_is =
    let D = g.D.Disk in
    let slot = c.args.slot.now in
    let behind = c.requires.within.behind in
    let place : slot.place - 13 + 13 ≡ slot.place = omega (arith, behind) in
    let size = g.met.D.Disk.size_is_shown c.args.disk.now x x_is in
    let inside = c.requires.within.inside in
    let differs = (c.requires.unfilled x x_is).differs in
    let torn = subst (λ n. Throughout (TornInto n 32 x) (D.since c.unveil_found.new.disk (D.moment c.args.disk.now))) place (c.unveil_found.ensures.stops x x_is) in
    λ s left at.
    let both = torn s left at in
    (slot_torn slot.place slot.veil x s (omega (arith, size, inside)) differs both.0, slot_torn slot.place slot.veil x left (omega (arith, size, inside)) differs both.1)

pub returns-clause-hands : goal.returns-clause-hands
returns-clause-hands g c =
    let D = g.D.Disk in
    let a = c.args.disk.now in
    let e = c.unveil_found.new.disk in
    let slot = c.args.slot.now in
    let behind = c.requires.within.behind in
    let place : slot.place - 13 + 13 ≡ slot.place = omega (arith, behind) in
    subst (λ n. Hands (record { place = n; bytes = slot.veil } ∷ []) (IsErr c.unveil_found.result) (D.shown a) (D.shown e) (D.since e (D.moment a))) place
    c.unveil_found.ensures.hands
