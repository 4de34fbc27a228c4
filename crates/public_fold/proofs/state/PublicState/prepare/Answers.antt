use Rattle.std.proofs.Common.{◌≡◌, Result, Err, sym, ap, ◌∙◌, subst}
use Rattle.std.proofs.lemmas.Result.{err_from_is_err_and}
use Rattle.record_format.specs.Told.{told_note}
use Rattle.public_fold.specs.Heads.{IsSkeleton}
use Rattle.public_fold.specs.KeyStep.{Stepped, is_strict}
use Rattle.public_fold.specs.Preparing.{begun, begun_view}
use Rattle.public_fold.specs.declared.fault.FoldFault.{FoldFault}
use Rattle.public_fold.specs.declared.fault.FoldFault.TheVariants as fold
use Rattle.move_plan.specs.Fitting.{fits}
use Rattle.public_fold.specs.Standing.{public_store_of}
use Rattle.public_fold.proofs.HeldMarks.{begun_strict}
use Rattle.public_fold.proofs.PreparedTold.{begun_seen}
use Rattle.public_fold.proofs.SeenAfter.{seen_after}
use Rattle.public_fold.proofs.SeenSame.{seen_fits, seen_step}
use Rattle.public_fold.proofs.StepTold.{fit_of}
use Rattle.public_fold.proofs.state.PublicState.prepare.Goals as goal

err_is : (X : Type 0) (r : Result X FoldFault) (a b : FoldFault) → r ≡ Err a → r ≡ Err b → a ≡ b
err_is X r a b p q = cc

pub returns-in_err-step-clause-unfit : goal.returns-in_err-step-clause-unfit
returns-in_err-step-clause-unfit c =
    let v = begun_view c.args.new_epoch c.args.self.now in
    let note = told_note c.args.note.now in
    let p = err_from_is_err_and c.from_residual.result c.from_residual.ensures.1 in
    λ e at sees.
    seen_fits v (begun c.args.new_epoch at) note (begun_seen c.args.new_epoch c.args.self.now at sees)
    ∙ c.step_of.ensures.unfit (c.in_err-step.was ∙ ap (λ (f : FoldFault). Err f) (sym p.2 ∙ err_is _ c.from_residual.result p.0 fold.Unfit p.1 e))

pub returns-clause-skeleton : goal.returns-clause-skeleton
returns-clause-skeleton c =
    let v = begun_view c.args.new_epoch c.args.self.now in
    let note = told_note c.args.note.now in
    λ at sees. subst (λ (s : Stepped). IsSkeleton s c.in_ok-step.step.skeleton) (sym (seen_step v (begun c.args.new_epoch at) note (begun_seen c.args.new_epoch c.args.self.now at sees))) c.in_ok-step.ensures.step.skeleton

pub returns-clause-after : goal.returns-clause-after
returns-clause-after c =
    let note = told_note c.args.note.now in
    let v = begun_view c.args.new_epoch c.args.self.now in
    λ at sees. seen_after (is_strict v.keys) v c.args.self.now.keys note c.in_ok-step.step (fit_of v note c.in_ok-step.ensures.fits) c.in_ok-step.ensures.step
    (begun c.args.new_epoch at) (begun_seen c.args.new_epoch c.args.self.now at sees)

pub returns-clause-can : goal.returns-clause-can
returns-clause-can c = record {
  note_fits = ap (λ b. fits b (public_store_of c.args.self.now) (told_note c.args.note.now)) (sym (begun_strict c.args.new_epoch c.args.self.now.keys))
      ∙ fit_of (begun_view c.args.new_epoch c.args.self.now) (told_note c.args.note.now) c.in_ok-step.ensures.fits;
  begins = c.args.new_epoch;
  leaves = returns-clause-after c;
}

pub returns-clause-fits : goal.returns-clause-fits
returns-clause-fits c =
    let v = begun_view c.args.new_epoch c.args.self.now in
    let note = told_note c.args.note.now in
    λ at sees. seen_fits v (begun c.args.new_epoch at) note (begun_seen c.args.new_epoch c.args.self.now at sees) ∙ c.in_ok-step.ensures.fits
