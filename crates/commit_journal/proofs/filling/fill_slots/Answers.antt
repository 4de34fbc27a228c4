use Rattle.std.proofs.Common.{◌≡◌, ◌≤◌, ◌<◌, ◌⊎◌, ⊎_elim, inl, inr, ℕ, List, [], Some, length, map, get_or, refl, sym, ap, subst, ◌∙◌, arith}
use Rattle.std.specs.Prelude.{IsErr}
use Rattle.cry_io.proofs.ToldLemmas.{told_again}
use Rattle.batch_log.specs.Handing.{IsStage, IsTornStage}
use Rattle.batch_log.proofs.Handed.{at_start}
use Rattle.batch_log.proofs.Moments.{goes_on_then, in_both}
use Rattle.batch_log.proofs.WrittenMoments.{told_one}
use Rattle.commit_journal.specs.declared.filling.Unfilled.{Unfilled}
use Rattle.commit_journal.specs.Filling.{IsWithin, LeavesUnfilled, all_filled}
use Rattle.commit_journal.specs.Handing.{slot_write}
use Rattle.commit_journal.proofs.CommitLemmas.{on_err}
use Rattle.commit_journal.proofs.SlotsWritten.{filled_all, filled_more, fills_one, fills_start, left_here, left_later, stage_here, stage_later, torn_here, torn_later, unfilled_here, unfilled_next}
use Rattle.commit_journal.proofs.StoppedCommits.{stays}
use Rattle.commit_journal.proofs.filling.fill_slots.Goals as goal

abbrev none : Unfilled
none = record { place = 0; veil = [] }

pub fill_slot-requires-clause-within : goal.fill_slot-requires-clause-within
fill_slot-requires-clause-within g c =
    let slots = c.args.slots.now in
    let i = c.loop-slot.slot-index in
    let before : i < length slots = omega (arith, c.loop-slot-test.true) in
    subst (λ n. IsWithin n (get_or slots i none)) (sym c.loop-slot.invariant.size) (c.requires.within i none before)

pub fill_slot-requires-clause-unfilled : goal.fill_slot-requires-clause-unfilled
fill_slot-requires-clause-unfilled g c = λ y y_is.
    let slots = c.args.slots.now in
    let before : c.loop-slot.slot-index < length slots = omega (arith, c.loop-slot-test.true) in
    unfilled_here slots c.loop-slot.slot-index none y before (c.loop-slot.invariant.unfilled y y_is)

pub loop-slot-init : goal.loop-slot-init
loop-slot-init g c =
    let D = g.D.Disk in
    let a = c.args.disk.now in
    let slots = c.args.slots.now in
    record {
      told = refl;
      size = refl;
      durable = c.requires.nothing_pending;
      later = omega arith;
      time = stays (D.moment a) (D.since a) (D.shown a) (D.may_leave a) (λ s left at. g.met.D.Disk.only_now a s left at)
          (λ t s left early is leaves. g.met.D.Disk.counts_now a t s left early is leaves);
      stops = fills_start slots (D.shown a) (D.may_leave a) (D.since a (D.moment a)) c.requires.nothing_pending
          (λ s left at. g.met.D.Disk.only_now a s left at);
      counts = omega arith;
      unfilled = c.requires.unfilled;
      so_far = λ x y x_is y_is. ap (λ r. all_filled slots r) (told_one (D.shown a) x y x_is y_is);
      left = λ x y z x_is y_is leaves. subst (λ r. LeavesUnfilled slots r z) (told_one (D.shown a) y x y_is x_is) leaves;
      hands = λ x x_is s left at. subst (λ r. IsStage (map slot_write slots) x r)
          (told_one (D.shown a) x s x_is (g.met.D.Disk.only_now a s left at).0) (at_start (map slot_write slots) x);
      stage = λ x y z x_is y_is is. subst (λ r. IsStage (map slot_write slots) r z) (told_one (D.shown a) y x y_is x_is) is;
      torn = λ x y z x_is y_is torn. subst (λ r. IsTornStage (map slot_write slots) r z) (told_one (D.shown a) y x y_is x_is) torn;
    }

pub loop-slot-preserved : goal.loop-slot-preserved
loop-slot-preserved g c =
    let D = g.D.Disk in
    let a = c.args.disk.now in
    let b = c.loop-slot.disk in
    let e = c.fill_slot.new.disk in
    let slots = c.args.slots.now in
    let i = c.loop-slot.slot-index in
    let within : i < length slots = omega (arith, c.loop-slot-test.true) in
    let before = c.loop-slot.invariant in
    let one = c.in_ok-fill_slot.ensures in
    record {
      told = one.told ∙ before.told;
      size = one.size ∙ before.size;
      durable = one.durable;
      later = omega (arith, before.later, one.later);
      time = goes_on_then (D.moment a) (D.moment b) (D.since a) (D.since b) (D.since e) before.later before.time one.time;
      stops = λ x x_is.
          let again = told_again (D.shown a) (D.shown b) x before.told x_is in
          fills_one slots i none x again.0 (D.moment a) (D.moment b) (D.since b) (D.since e) before.later one.time
          within (λ z leaves. before.left x again.0 z x_is again.1 leaves) (before.stops x x_is) (one.stops again.0 again.1);
      counts = omega (arith, before.counts, one.counts);
      unfilled = λ z z_is.
          let again = told_again (D.shown e) (D.shown b) z (sym one.told) z_is in
          unfilled_next slots i none again.0 z within (one.filled again.0 z again.1 z_is) (before.unfilled again.0 again.1);
      so_far = λ x z x_is z_is.
          let again = told_again (D.shown e) (D.shown b) z (sym one.told) z_is in
          before.so_far x again.0 x_is again.1 ∙ filled_more slots i none again.0 z within (one.filled again.0 z again.1 z_is);
      left = λ x z w x_is z_is leaves.
          let again = told_again (D.shown e) (D.shown b) z (sym one.told) z_is in
          before.left x again.0 w x_is again.1 (left_later slots i none again.0 z w within (one.filled again.0 z again.1 z_is) leaves);
      hands = λ x x_is.
          let again = told_again (D.shown a) (D.shown b) x before.told x_is in
          let P : List ℕ → List ℕ → Type 0 = λ s left. IsStage (map slot_write slots) x s in
          in_both (D.moment a) (D.moment b) (D.since b) (D.since e) P before.later one.time (before.hands x x_is)
          (λ s left at. before.stage x again.0 s x_is again.1 (stage_here slots i none again.0 s within
          (⊎_elim (λ is. is) (λ torn. let err = torn.0 in absurd (cc)) (one.hands again.0 again.1 s left at))));
      stage = λ x z w x_is z_is is.
          let again = told_again (D.shown e) (D.shown b) z (sym one.told) z_is in
          before.stage x again.0 w x_is again.1 (stage_later slots i none again.0 z w within (one.filled again.0 z again.1 z_is) is);
      torn = λ x z w x_is z_is torn.
          let again = told_again (D.shown e) (D.shown b) z (sym one.told) z_is in
          before.torn x again.0 w x_is again.1 (torn_later slots i none again.0 z w within (one.filled again.0 z again.1 z_is) torn);
    }

pub returns-clause-filled : goal.returns-clause-filled
returns-clause-filled g c = λ x y x_is y_is.
    let slots = c.args.slots.now in
    let past : length slots ≤ c.loop-slot.slot-index = omega (arith, c.loop-slot-test.false) in
    sym (c.loop-slot.invariant.so_far x y x_is y_is ∙ filled_all slots c.loop-slot.slot-index y past)

pub returns-in_err-fill_slot-clause-left : goal.returns-in_err-fill_slot-clause-left
returns-in_err-fill_slot-clause-left g c =
    let shown = g.D.Disk.shown in
    let slots = c.args.slots.now in
    let within : c.loop-slot.slot-index < length slots = omega (arith, c.loop-slot-test.true) in
    on_err c.from_residual.result
    (λ x z x_is z_is.
    let again = told_again (shown c.fill_slot.new.disk) (shown c.loop-slot.disk) z (sym c.fill_slot.ensures.told) z_is in
    c.loop-slot.invariant.left x again.0 z x_is again.1
    (left_here slots c.loop-slot.slot-index none again.0 z within (c.in_err-fill_slot.ensures.left again.0 z again.1 z_is)))

pub returns-in_err-fill_slot-clause-stops : goal.returns-in_err-fill_slot-clause-stops
returns-in_err-fill_slot-clause-stops g c = λ x x_is.
    let D = g.D.Disk in
    let a = c.args.disk.now in
    let b = c.loop-slot.disk in
    let e = c.fill_slot.new.disk in
    let slots = c.args.slots.now in
    let before = c.loop-slot.invariant in
    let within : c.loop-slot.slot-index < length slots = omega (arith, c.loop-slot-test.true) in
    let again = told_again (D.shown a) (D.shown b) x before.told x_is in
    fills_one slots c.loop-slot.slot-index none x again.0 (D.moment a) (D.moment b) (D.since b) (D.since e) before.later c.in_err-fill_slot.ensures.time
    within (λ z leaves. before.left x again.0 z x_is again.1 leaves) (before.stops x x_is) (c.in_err-fill_slot.ensures.stops again.0 again.1)

pub returns-clause-hands : goal.returns-clause-hands
returns-clause-hands g c = λ x x_is s left at. inl (c.loop-slot.invariant.hands x x_is s left at)

pub returns-in_err-fill_slot-clause-hands : goal.returns-in_err-fill_slot-clause-hands
returns-in_err-fill_slot-clause-hands g c = λ x x_is.
    let D = g.D.Disk in
    let a = c.args.disk.now in
    let b = c.loop-slot.disk in
    let e = c.fill_slot.new.disk in
    let slots = c.args.slots.now in
    let i = c.loop-slot.slot-index in
    let before = c.loop-slot.invariant in
    let within : i < length slots = omega (arith, c.loop-slot-test.true) in
    let again = told_again (D.shown a) (D.shown b) x before.told x_is in
    let P : List ℕ → List ℕ → Type 0 = λ s left. IsStage (map slot_write slots) x s
    ⊎ (IsErr c.from_residual.result × (D.shown e ≡ Some s) × IsTornStage (map slot_write slots) x s) in
    in_both (D.moment a) (D.moment b) (D.since b) (D.since e) P before.later c.in_err-fill_slot.ensures.time
    (λ s left at. inl (before.hands x x_is s left at))
    (λ s left at. ⊎_elim
    (λ is. inl (before.stage x again.0 s x_is again.1 (stage_here slots i none again.0 s within is)))
    (λ torn. inr (c.from_residual.ensures.0, torn.1, before.torn x again.0 s x_is again.1 (torn_here slots i none again.0 s within torn.2)))
    (c.in_err-fill_slot.ensures.hands again.0 again.1 s left at))
