use Rattle.std.proofs.Common.{◌≡◌, Result, Err, sym, ap, ◌∙◌, subst}
use Rattle.std.proofs.lemmas.Result.{err_from_is_err_and}
use Rattle.record_format.specs.Told.{told_note}
use Rattle.public_fold.specs.Heads.{IsSkeleton}
use Rattle.public_fold.specs.KeyStep.{Stepped}
use Rattle.public_fold.specs.Preparing.{begun_keys}
use Rattle.public_fold.specs.declared.fault.FoldFault.{FoldFault}
use Rattle.public_fold.specs.declared.fault.FoldFault.TheVariants as fold
use Rattle.public_fold.proofs.SeenSame.{seen_fits, seen_step}
use Rattle.public_fold.proofs.state.PublicState.skeleton.Goals as goal

err_is : (X : Type 0) (r : Result X FoldFault) (a b : FoldFault) → r ≡ Err a → r ≡ Err b → a ≡ b
err_is X r a b p q = cc

pub returns-in_err-step-clause-unfit : goal.returns-in_err-step-clause-unfit
unfolding begun_keys
returns-in_err-step-clause-unfit c =
    let p = err_from_is_err_and c.from_residual.result c.from_residual.ensures.1 in
    λ e at sees. seen_fits c.args.self.now at (told_note c.args.note.now) sees
    ∙ c.step_of.ensures.unfit (c.in_err-step.was ∙ ap (λ (f : FoldFault). Err f) (sym p.2 ∙ err_is _ c.from_residual.result p.0 fold.Unfit p.1 e))

pub returns-clause-skeleton : goal.returns-clause-skeleton
unfolding begun_keys
returns-clause-skeleton c =
    λ at sees. subst (λ (s : Stepped). IsSkeleton s c.in_ok-step.step.skeleton) (sym (seen_step c.args.self.now at (told_note c.args.note.now) sees)) c.in_ok-step.ensures.step.skeleton

pub returns-clause-fits : goal.returns-clause-fits
unfolding begun_keys
returns-clause-fits c = λ at sees. seen_fits c.args.self.now at (told_note c.args.note.now) sees ∙ c.in_ok-step.ensures.fits
