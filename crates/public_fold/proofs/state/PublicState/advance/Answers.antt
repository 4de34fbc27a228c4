use Rattle.std.proofs.Common.{◌≡◌, Result, Err, sym, ap, ◌∙◌, subst}
use Rattle.std.proofs.lemmas.Result.{err_from_is_err_and}
use Rattle.record_format.specs.Plain.{plain_payload}
use Rattle.record_format.specs.Told.{told_note}
use Rattle.public_fold.specs.Changing.{checks_then}
use Rattle.public_fold.specs.Fitted.{told_stand, told_step}
use Rattle.public_fold.specs.Heads.{IsSkeleton}
use Rattle.public_fold.specs.Preparing.{begun_keys, settled}
use Rattle.public_fold.specs.Standing.{IsSeenAs, PublicView}
use Rattle.public_fold.specs.declared.fault.FoldFault.{FoldFault}
use Rattle.public_fold.specs.declared.heads.Skeleton.{Skeleton}
use Rattle.public_fold.specs.declared.fault.FoldFault.TheVariants as fold
use Rattle.public_fold.proofs.DueLists.{skeleton_due}
use Rattle.public_fold.proofs.StepTold.{misfit, no_heads, payload_fit}
use Rattle.public_fold.proofs.state.PublicState.advance.Goals as goal

err_is : (X : Type 0) (r : Result X FoldFault) (a b : FoldFault) → r ≡ Err a → r ≡ Err b → a ≡ b
err_is X r a b p q = cc

pub returns-in_err-ready-clause-unfit : goal.returns-in_err-ready-clause-unfit
unfolding begun_keys
returns-in_err-ready-clause-unfit c =
    let p = err_from_is_err_and c.from_residual.result c.from_residual.ensures.1 in
    λ e at sees. misfit at (plain_payload c.args.payload.now)
    (c.prepare.ensures.unfit (c.in_err-ready.was ∙ ap (λ (f : FoldFault). Err f) (sym p.2 ∙ err_is _ c.from_residual.result p.0 fold.Unfit p.1 e)) at sees)

pub returns-then-not-has_records-clause-unfit : goal.returns-then-not-has_records-clause-unfit
unfolding begun_keys
returns-then-not-has_records-clause-unfit c =
    let payload = plain_payload c.args.payload.now in
    λ e at sees.
    let step = told_step at (told_note c.args.payload.now.note) in
    no_heads at payload
    (sym (skeleton_due step c.skeleton.result.now payload (subst (λ (s : Skeleton). IsSkeleton step s) (sym c.skeleton.ensures) (c.in_ok-ready.ensures.skeleton at sees)))
    ∙ sym c.has_records.ensures ∙ c.if-not-has_records.true)

pub returns-clause-seen : goal.returns-clause-seen
unfolding begun_keys
returns-clause-seen c =
    let note = told_note c.args.payload.now.note in
    λ at sees.
    subst (λ (v : PublicView). IsSeenAs v (told_stand at note)) (sym c.settle.ensures)
    (subst (λ (v : PublicView). IsSeenAs (settled v c.in_ok-ready.ready) (told_stand at note)) (sym c.reserve.ensures.content) (c.in_ok-ready.ensures.after at sees))

pub returns-clause-checks : goal.returns-clause-checks
returns-clause-checks c =
    ap (λ (v : PublicView). v.checks) c.settle.ensures
    ∙ ap (λ (v : PublicView). checks_then v.checks (told_note c.in_ok-ready.ready.note)) c.reserve.ensures.content
    ∙ ap (λ n. checks_then c.args.self.now.checks (told_note n)) c.in_ok-ready.ensures.note

pub returns-clause-fits : goal.returns-clause-fits
unfolding begun_keys
returns-clause-fits c =
    let payload = plain_payload c.args.payload.now in
    λ at sees.
    let step = told_step at (told_note c.args.payload.now.note) in
    payload_fit at payload (c.in_ok-ready.ensures.fits at sees)
    (sym (skeleton_due step c.skeleton.result.now payload (subst (λ (s : Skeleton). IsSkeleton step s) (sym c.skeleton.ensures) (c.in_ok-ready.ensures.skeleton at sees)))
    ∙ sym c.has_records.ensures ∙ c.if-not-has_records.false)
