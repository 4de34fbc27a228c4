-- Whether a note fits, and its step, from what the code made.
use Rattle.std.proofs.Common.{◌≡◌, ◌<◌, ◌≤◌, Bool, true, false, ◌&&◌, nat_lt, refl, sym, ap, ◌∙◌, subst, arith}
use Rattle.std.proofs.lemmas.Bool.{and_from, and_left, and_parts, and_right, lt-ltb, le-ltb}
use Rattle.role_graph.specs.Edges.{edges, has_grants}
use Rattle.role_graph.specs.PublicStore.{public_store}
use Rattle.record_format.specs.Noted.{Note}
use Rattle.move_plan.specs.Change.{Change, change_of}
use Rattle.move_plan.specs.Fitting.{fits}
use Rattle.move_plan.specs.declared.fault.ChangeFault.{ChangeFault}
use Rattle.move_plan.specs.declared.fault.ChangeFault.TheVariants as change
use Rattle.record_format.specs.Plain.{PlainPayload}
use Rattle.record_format.specs.Told.{told_note}
use Rattle.public_fold.specs.Faults.{fault_of}
use Rattle.public_fold.specs.Fitted.{fits_step, has_heads, payload_fits, told_step}
use Rattle.public_fold.specs.declared.fault.FoldFault.TheVariants as fold
use Rattle.public_fold.specs.Journal.{Stand, note_step}
use Rattle.public_fold.specs.KeyStep.{Stepped, is_strict}
use Rattle.public_fold.specs.Records.{pieces_of}
use Rattle.public_fold.specs.StandFits.{has_count, note_fits}
use Rattle.public_fold.specs.Standing.{PublicView, public_store_of, stand_of}
use Rattle.public_fold.specs.Stepping.{IsDue, IsNumbered, IsStep, counted}
use Rattle.public_fold.specs.Told.{told_store}
use Rattle.public_fold.specs.declared.step.Due.{Due}
use Rattle.public_fold.specs.declared.step.Step.{Step}
use Rattle.public_fold.proofs.StepMade.{is_step, pieces_due, step_count}

-- the step that is told, and whether the note fits
abbrev pub step_at : PublicView → Note → Stepped
step_at v note = told_step (stand_of v) note

abbrev pub fits_at : PublicView → Note → Bool
fits_at v note = note_fits (stand_of v) note (step_at v note)

pub not_begun : (v : PublicView) (note : Note) → v.keys.epoch ≡ 0 → fits_at v note ≡ false
unfolding note_fits
not_begun v note e = and_left (nat_lt 0 v.keys.epoch) (fits (is_strict v.keys) (public_store_of v) note && has_count (step_at v note)) (ap (λ n. nat_lt 0 n) e)

pub not_fitting : (v : PublicView) (note : Note) → fits (is_strict v.keys) (public_store_of v) note ≡ false → fits_at v note ≡ false
unfolding note_fits
not_fitting v note e =
    and_right (nat_lt 0 v.keys.epoch) (fits (is_strict v.keys) (public_store_of v) note && has_count (step_at v note)) (and_left (fits (is_strict v.keys) (public_store_of v) note) (has_count (step_at v note)) e)

pub fit_of : (v : PublicView) (note : Note) → fits_at v note ≡ true → fits (is_strict v.keys) (public_store_of v) note ≡ true
unfolding note_fits
fit_of v note e =
    (and_parts (fits (is_strict v.keys) (public_store_of v) note) (has_count (step_at v note)) (and_parts (nat_lt 0 v.keys.epoch) (fits (is_strict v.keys) (public_store_of v) note && has_count (step_at v note)) e).1).0

-- holders don't show in edges
pub edges_seen : (v : PublicView) → edges (public_store v.tree v.pairs) ≡ edges (public_store_of v)
unfolding edges has_grants
edges_seen v = refl

-- why a change of a note was refused
pub unfit_cause : (fault : ChangeFault) → fault_of fault ≡ fold.Unfit → fault ≡ change.Unfit
unfit_cause change.Unfit e = refl
unfit_cause change.OutOfMemory e = cc

pub misfit : (at : Stand) (p : PlainPayload) → note_fits at (told_note p.note) (told_step at (told_note p.note)) ≡ false → payload_fits at p ≡ false
unfolding payload_fits fits_step
misfit at p e = and_left (note_fits at (told_note p.note) (told_step at (told_note p.note))) (has_heads (told_step at (told_note p.note)) p) e

pub no_heads : (at : Stand) (p : PlainPayload) → has_heads (told_step at (told_note p.note)) p ≡ false → payload_fits at p ≡ false
unfolding payload_fits fits_step
no_heads at p e = and_right (note_fits at (told_note p.note) (told_step at (told_note p.note))) (has_heads (told_step at (told_note p.note)) p) e

pub payload_fit : (at : Stand) (p : PlainPayload) → note_fits at (told_note p.note) (told_step at (told_note p.note)) ≡ true → has_heads (told_step at (told_note p.note)) p ≡ true → payload_fits at p ≡ true
unfolding payload_fits fits_step
payload_fit at p f h = and_from (note_fits at (told_note p.note) (told_step at (told_note p.note))) (has_heads (told_step at (told_note p.note)) p) f h

module _ (v : PublicView) (note : Note) (c : Change) (d : Due) (fit : fits (is_strict v.keys) (public_store_of v) note ≡ true) (same : c ≡ change_of (is_strict v.keys) (public_store_of v) note) (is : IsDue v.keys (edges (public_store_of v)) c d) where
  due : IsDue v.keys (edges (public_store_of v)) (change_of (is_strict v.keys) (public_store_of v) note) d
  due = subst (λ x. IsDue v.keys (edges (public_store_of v)) x d) same is

  count_told : (step_at v note).after.count ≡ counted v.keys note d
  unfolding told_step note_step
  count_told = step_count v.keys (edges (public_store_of v)) (change_of (is_strict v.keys) (public_store_of v) note) note (pieces_of note (told_store (public_store_of v) note)) d (pieces_due (is_strict v.keys) (public_store_of v) note fit) due

  pub no_count : 4294967295 ≤ counted v.keys note d → fits_at v note ≡ false
  unfolding note_fits has_count
  no_count h =
      and_right (nat_lt 0 v.keys.epoch) (fits (is_strict v.keys) (public_store_of v) note && nat_lt (step_at v note).after.count 4294967295)
      (and_right (fits (is_strict v.keys) (public_store_of v) note) (nat_lt (step_at v note).after.count 4294967295) (le-ltb (step_at v note).after.count 4294967295 (subst (λ n. 4294967295 ≤ n) (sym count_told) h)))

  module _ (s : Step) (n : IsNumbered v.keys note d s) where
    pub step_told : IsStep v.keys (step_at v note) s
    unfolding told_step note_step
    step_told = is_step v.keys (edges (public_store_of v)) (change_of (is_strict v.keys) (public_store_of v) note) note (pieces_of note (told_store (public_store_of v) note)) d (pieces_due (is_strict v.keys) (public_store_of v) note fit) due s n

    pub fits_told : (v.keys.epoch ≡ 0 → ⊥) → fits_at v note ≡ true
    unfolding note_fits has_count
    fits_told begun =
        and_from (nat_lt 0 v.keys.epoch) (fits (is_strict v.keys) (public_store_of v) note && nat_lt (step_at v note).after.count 4294967295)
        (lt-ltb 0 v.keys.epoch (omega arith))
        (and_from (fits (is_strict v.keys) (public_store_of v) note) (nat_lt (step_at v note).after.count 4294967295) fit
        (lt-ltb (step_at v note).after.count 4294967295 (subst (λ m. m < 4294967295) (n.count ∙ sym count_told) n.below)))
