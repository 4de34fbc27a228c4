use Rattle.std.proofs.Common.{◌≡◌, ◌≤◌, ◌+◌, ℕ, Bool, true, false, List, Result, Ok, Err, arith, sym, ap, ◌∙◌, subst}
use Rattle.std.proofs.lemmas.Bool.{true_from_ne_false}
use Rattle.std.proofs.lemmas.Result.{err_from_is_err_and}
use Rattle.cry_base.specs.Store.{Store}
use Rattle.cry_base.specs.declared.roles.Role.{Role}
use Rattle.record_format.specs.Noted.{Note}
use Rattle.record_format.specs.Told.{told_note}
use Rattle.role_graph.specs.Edges.{edges}
use Rattle.role_graph.specs.PublicStore.{public_store}
use Rattle.move_plan.specs.Change.{Change as Plain, change_of}
use Rattle.move_plan.specs.Fitting.{fits}
use Rattle.move_plan.specs.LookUps.{change_look_ups}
use Rattle.move_plan.specs.Seen.{plain_change, seen_store}
use Rattle.move_plan.specs.declared.change.Change.{Change}
use Rattle.move_plan.specs.declared.fault.ChangeFault.{ChangeFault}
use Rattle.move_plan.specs.declared.fault.ChangeFault.TheVariants as change
use Rattle.public_fold.specs.Keyed.{IsKept}
use Rattle.public_fold.specs.KeyStep.{is_strict}
use Rattle.public_fold.specs.LookUps.{note_look_ups, step_look_ups}
use Rattle.public_fold.specs.Standing.{PublicView, public_store_of}
use Rattle.public_fold.specs.Stepping.{IsDue, marks_alone}
use Rattle.public_fold.specs.declared.fault.FoldFault.{FoldFault}
use Rattle.public_fold.specs.declared.fault.FoldFault.TheVariants as fold
use Rattle.public_fold.proofs.DueMade.{due_of_marks}
use Rattle.public_fold.proofs.StepLooked.{look_ups_of_marks}
use Rattle.public_fold.proofs.StepTold.{unfit_cause}
use Rattle.public_fold.proofs.step.due_of.Goals as goal

never_both : (X : Type 0) (x : X) (e : ChangeFault) (r : Result X ChangeFault) → r ≡ Ok x → r ≡ Err e → ⊥
never_both X x e r a b = cc

err_is : (X : Type 0) (r : Result X FoldFault) (a b : FoldFault) → r ≡ Err a → r ≡ Err b → a ≡ b
err_is X r a b p q = cc

pub change_of-requires : goal.change_of-requires
change_of-requires g c = c.requires ∙ ap (λ (w : PublicView). public_store w.tree w.pairs) (sym c.state.view_is)

pub due_step-requires : goal.due_step-requires
due_step-requires g c =
    let v = c.args.state.now in
    let note = told_note c.args.note.now in
    let fit : fits c.is_strict-strict.result (seen_store c.state.inside.shape.tree c.state.inside.grants) note ≡ true =
    true_from_ne_false (fits c.is_strict-strict.result (seen_store c.state.inside.shape.tree c.state.inside.grants) note) (λ f. never_both Change c.in_ok-change.change change.Unfit c.change_of.result c.in_ok-change.was (c.change_of.ensures.unfit.1 f)) in
    record {
      state = v;
      store = c.change_of.ensures.same ∙ c.requires;
      marks = ap (λ (w : PublicView). w.keys.dirty) c.state.view_is;
      kept = subst (λ (w : PublicView). IsKept (public_store_of w) w.keys.keys w.keys.dirty) c.state.view_is c.state.invariant;
      fits = (note, c.is_strict-strict.result, subst (λ (w : PublicView). fits c.is_strict-strict.result (public_store_of w) note ≡ true) c.state.view_is fit, c.in_ok-change.ensures.change ∙ ap (λ (w : PublicView). change_of c.is_strict-strict.result (public_store_of w) note) c.state.view_is);
    }

pub returns-in_err-change-clause-unfit : goal.returns-in_err-change-clause-unfit
returns-in_err-change-clause-unfit g c =
    let note = told_note c.args.note.now in
    let p = err_from_is_err_and c.from_residual.result c.from_residual.ensures.1 in
    λ e.
    let cause : c.in_err-change.field-0.0 ≡ change.Unfit = unfit_cause c.in_err-change.field-0.0 (sym p.2 ∙ err_is _ c.from_residual.result p.0 fold.Unfit p.1 e) in
    let here : c.change_of.result ≡ Err change.Unfit = c.in_err-change.was ∙ ap (λ (f : ChangeFault). Err f) cause in
    ap (λ b. fits b (public_store_of c.args.state.now) note) (sym c.is_strict-strict.ensures)
    ∙ subst (λ (w : PublicView). fits c.is_strict-strict.result (public_store_of w) note ≡ false) c.state.view_is (c.change_of.ensures.unfit.0 here)

pub returns-clause-fits : goal.returns-clause-fits
returns-clause-fits g c =
    let note = told_note c.args.note.now in
    ap (λ b. fits b (public_store_of c.args.state.now) note) (sym c.is_strict-strict.ensures)
    ∙ subst (λ (w : PublicView). fits c.is_strict-strict.result (public_store_of w) note ≡ true) c.state.view_is
    (true_from_ne_false (fits c.is_strict-strict.result (seen_store c.state.inside.shape.tree c.state.inside.grants) note) (λ f. never_both Change c.in_ok-change.change change.Unfit c.change_of.result c.in_ok-change.was (c.change_of.ensures.unfit.1 f)))

pub returns-clause-due : goal.returns-clause-due
returns-clause-due g c =
    let v = c.args.state.now in
    let note = told_note c.args.note.now in
    let same : plain_change c.in_ok-change.change ≡ change_of (is_strict v.keys) (public_store_of v) note = c.in_ok-change.ensures.change ∙ ap (λ (w : PublicView). change_of c.is_strict-strict.result (public_store_of w) note) c.state.view_is
    ∙ ap (λ b. change_of b (public_store_of v) note) c.is_strict-strict.ensures in
    subst (λ (x : Plain). IsDue v.keys (edges (public_store v.tree v.pairs)) x c.in_ok-due_step.field-0) same
    (due_of_marks v.keys (edges (public_store v.tree v.pairs)) (plain_change c.in_ok-change.change) c.in_ok-due_step.field-0
    (subst (λ (d : List Role). IsDue (marks_alone d) (edges (public_store v.tree v.pairs)) (plain_change c.in_ok-change.change) c.in_ok-due_step.field-0) (ap (λ (w : PublicView). w.keys.dirty) c.state.view_is)
    (subst (λ (s : Store). IsDue (marks_alone c.state.inside.dirty) (edges s) (plain_change c.in_ok-change.change) c.in_ok-due_step.field-0) (c.change_of.ensures.same ∙ c.requires) c.in_ok-due_step.ensures.due)))

-- the change is listed, and then the step is looked up
changed : (v : PublicView) (note : Note) (strict : Bool) (w : PublicView) (before listed : ℕ) → w ≡ v → strict ≡ is_strict v.keys
    → listed ≤ before + change_look_ups strict (public_store_of w) note → listed ≤ before + change_look_ups (is_strict v.keys) (public_store_of v) note
changed v note strict w before listed is same few =
    let all : change_look_ups strict (public_store_of w) note ≡ change_look_ups (is_strict v.keys) (public_store_of v) note =
    (λ i. change_look_ups (same i) (public_store_of (is i)) note) in
    omega (arith, few, all)

both : (v : PublicView) (note : Note) (s t : Store) (dirty : List Role) (x : Plain) (before listed now : ℕ) → t ≡ s → s ≡ public_store v.tree v.pairs → dirty ≡ v.keys.dirty
    → x ≡ change_of (is_strict v.keys) (public_store_of v) note → listed ≤ before + change_look_ups (is_strict v.keys) (public_store_of v) note
    → now ≤ listed + step_look_ups (marks_alone dirty) (edges t) x → now ≤ before + note_look_ups v note
both v note s t dirty x before listed now same is marks told few more =
    let step : step_look_ups (marks_alone dirty) (edges t) x ≡ step_look_ups v.keys (edges (public_store v.tree v.pairs)) (change_of (is_strict v.keys) (public_store_of v) note) =
    (λ i. step_look_ups (marks_alone (marks i)) (edges ((same ∙ is) i)) (told i)) ∙ look_ups_of_marks v.keys (edges (public_store v.tree v.pairs)) (change_of (is_strict v.keys) (public_store_of v) note) in
    omega (arith, few, more, step)

pub returns-clause-look_ups : goal.returns-clause-look_ups
returns-clause-look_ups g c =
    let v = c.args.state.now in
    let note = told_note c.args.note.now in
    both v note (g.R.Adjacent.store c.args.roles.now) (g.R.Adjacent.store c.change_of.new.roles) c.state.inside.dirty (plain_change c.in_ok-change.change)
    (g.R.Adjacent.steps c.args.roles.now) (g.R.Adjacent.steps c.change_of.new.roles) (g.R.Adjacent.steps c.due_step.new.roles)
    c.change_of.ensures.same c.requires (ap (λ (w : PublicView). w.keys.dirty) c.state.view_is)
    (c.in_ok-change.ensures.change ∙ ap (λ (w : PublicView). change_of c.is_strict-strict.result (public_store_of w) note) c.state.view_is
    ∙ ap (λ b. change_of b (public_store_of v) note) c.is_strict-strict.ensures)
    (changed v note c.is_strict-strict.result _ (g.R.Adjacent.steps c.args.roles.now) (g.R.Adjacent.steps c.change_of.new.roles) c.state.view_is c.is_strict-strict.ensures c.change_of.ensures.steps) c.due_step.ensures.look_ups

pub returns-in_err-due_step-clause-look_ups : goal.returns-in_err-due_step-clause-look_ups
returns-in_err-due_step-clause-look_ups g c =
    let v = c.args.state.now in
    let note = told_note c.args.note.now in
    both v note (g.R.Adjacent.store c.args.roles.now) (g.R.Adjacent.store c.change_of.new.roles) c.state.inside.dirty (plain_change c.in_ok-change.change)
    (g.R.Adjacent.steps c.args.roles.now) (g.R.Adjacent.steps c.change_of.new.roles) (g.R.Adjacent.steps c.due_step.new.roles)
    c.change_of.ensures.same c.requires (ap (λ (w : PublicView). w.keys.dirty) c.state.view_is)
    (c.in_ok-change.ensures.change ∙ ap (λ (w : PublicView). change_of c.is_strict-strict.result (public_store_of w) note) c.state.view_is
    ∙ ap (λ b. change_of b (public_store_of v) note) c.is_strict-strict.ensures)
    (changed v note c.is_strict-strict.result _ (g.R.Adjacent.steps c.args.roles.now) (g.R.Adjacent.steps c.change_of.new.roles) c.state.view_is c.is_strict-strict.ensures c.change_of.ensures.steps) c.due_step.ensures.look_ups

pub returns-in_err-change-clause-look_ups : goal.returns-in_err-change-clause-look_ups
returns-in_err-change-clause-look_ups g c =
    let few = changed c.args.state.now (told_note c.args.note.now) c.is_strict-strict.result _ (g.R.Adjacent.steps c.args.roles.now) (g.R.Adjacent.steps c.change_of.new.roles)
    c.state.view_is c.is_strict-strict.ensures c.change_of.ensures.steps in
    omega (arith, few)
