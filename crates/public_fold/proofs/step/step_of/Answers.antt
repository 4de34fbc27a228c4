use Rattle.std.proofs.Common.{◌≡◌, true, Result, Err, refl, sym, ap, ◌∙◌}
use Rattle.std.proofs.lemmas.Result.{IfOk-weaker, err_from_is_err_and}
use Rattle.record_format.specs.Told.{told_note}
use Rattle.move_plan.specs.Change.{change_of}
use Rattle.public_fold.specs.KeyStep.{KeyState, is_strict}
use Rattle.public_fold.specs.Preparing.{begun_view}
use Rattle.public_fold.specs.Standing.{PublicView, public_store_of}
use Rattle.public_fold.specs.Stepping.{IsNumbered, IsStep, keys_at}
use Rattle.public_fold.specs.declared.fault.FoldFault.{FoldFault}
use Rattle.public_fold.specs.declared.fault.FoldFault.TheVariants as fold
use Rattle.public_fold.proofs.StepBegun.{begun_fits, begun_misfit, begun_no_count, begun_step}
use Rattle.public_fold.proofs.StepTold.{fits_at, not_begun, step_at}
use Rattle.public_fold.proofs.step.step_of.Goals as goal

err_is : (X : Type 0) (r : Result X FoldFault) (a b : FoldFault) → r ≡ Err a → r ≡ Err b → a ≡ b
err_is X r a b p q = cc

pub returns-then-from-eq0-clause-unfit : goal.returns-then-from-eq0-clause-unfit
returns-then-from-eq0-clause-unfit c =
    λ e. not_begun (begun_view c.args.new_epoch c.args.state.now) (told_note c.args.note.now) (sym (ap (λ (k : KeyState). k.epoch) c.counts_from-from.ensures) ∙ c.if-from-eq0.true)

pub returns-in_err-due-clause-unfit : goal.returns-in_err-due-clause-unfit
returns-in_err-due-clause-unfit c =
    let p = err_from_is_err_and c.from_residual.result c.from_residual.ensures.1 in
    λ e. begun_misfit c.args.new_epoch c.args.state.now (told_note c.args.note.now)
    (c.due_counted.ensures.unfit (c.in_err-due.was ∙ ap (λ (f : FoldFault). Err f) (sym p.2 ∙ err_is _ c.from_residual.result p.0 fold.Unfit p.1 e)))

pub returns-clause-fits : goal.returns-clause-fits
returns-clause-fits c =
    let v = c.args.state.now in
    let note = told_note c.args.note.now in
    let from = c.counts_from-from.result in
    let keys = c.state.inside.keys.keys in
    IfOk-weaker c.numbered_step.result (IsNumbered (keys_at keys from) note c.in_ok-due.due) (λ s. fits_at (begun_view c.args.new_epoch v) note ≡ true)
    (λ s n. begun_fits c.args.new_epoch v from keys (ap (λ (w : PublicView). w.keys.keys) c.state.view_is) c.counts_from-from.ensures note (change_of (is_strict v.keys) (public_store_of v) note) c.in_ok-due.due
    c.in_ok-due.ensures.fits refl c.in_ok-due.ensures.due s n c.if-from-eq0.false)
    c.numbered_step.ensures.step

pub returns-clause-step : goal.returns-clause-step
returns-clause-step c =
    let v = c.args.state.now in
    let note = told_note c.args.note.now in
    let from = c.counts_from-from.result in
    let keys = c.state.inside.keys.keys in
    IfOk-weaker c.numbered_step.result (IsNumbered (keys_at keys from) note c.in_ok-due.due) (IsStep v.keys (step_at (begun_view c.args.new_epoch v) note))
    (λ s n. begun_step c.args.new_epoch v from keys (ap (λ (w : PublicView). w.keys.keys) c.state.view_is) c.counts_from-from.ensures note (change_of (is_strict v.keys) (public_store_of v) note) c.in_ok-due.due
    c.in_ok-due.ensures.fits refl c.in_ok-due.ensures.due s n)
    c.numbered_step.ensures.step

pub returns-clause-unfit : goal.returns-clause-unfit
returns-clause-unfit c =
    let v = c.args.state.now in
    let note = told_note c.args.note.now in
    let from = c.counts_from-from.result in
    λ e. begun_no_count c.args.new_epoch v from c.state.inside.keys.keys (ap (λ (w : PublicView). w.keys.keys) c.state.view_is) c.counts_from-from.ensures note (change_of (is_strict v.keys) (public_store_of v) note) c.in_ok-due.due
    c.in_ok-due.ensures.fits refl c.in_ok-due.ensures.due (c.numbered_step.ensures.unfit e)
