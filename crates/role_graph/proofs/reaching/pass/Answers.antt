use Rattle.std.proofs.Common.{◌≡◌, ◌<◌, get_or, sym, ◌∙◌, subst}
use Rattle.std.proofs.lemmas.List.{take_all}
use Rattle.std.proofs.lemmas.Bool.{false≢true}
use Rattle.cry_base.specs.Sets.{In}
use Rattle.cry_base.specs.Sets.Path.{Here}
use Rattle.cry_base.specs.declared.roles.Edge.{Edge}
use Rattle.cry_base.specs.declared.roles.Role.TheVariants.{Owner}
use Rattle.role_graph.specs.Closing.{IsClosed, count_outside}
use Rattle.role_graph.proofs.Rising.{get_or-In}
use Rattle.role_graph.proofs.Growing.{leads, stepped, step_keeps, step_sound, closed_step, fewer_step}
use Rattle.role_graph.proofs.reaching.pass.Goals as goal
use Rattle.role_graph.proofs.reaching.pass.Goals.{then-branch, else-branch}

pub loop-edge-init : goal.loop-edge-init
loop-edge-init c = record {
  kept = λ r i. i;
  reached = λ r i. (r, i, Here);
  closed = λ n e i. absurd i;
  fewer = λ t. absurd (false≢true t);
}

pub loop-edge-preserved : goal.loop-edge-preserved
loop-edge-preserved c =
    let es = c.args.edges.now in
    let i = c.loop-edge.edge-index in
    let rs = c.loop-edge.reached in
    let new = c.follow.new.reached in
    let blank : Edge = record { kind = 0; from = Owner; to = Owner } in
    let e : Edge = get_or es i blank in
    let there : In e es = get_or-In Edge es i blank c.loop-edge-test.true in
    let grew = c.in_ok-follow.field-0 in
    let told : grew ≡ leads e rs = c.in_ok-follow.ensures.leads in
    let grown : new ≡ stepped grew e rs = c.in_ok-follow.ensures.grown in
    record {
      kept = λ r j. subst (In r) (sym grown) (step_keeps grew e rs r (c.loop-edge.invariant.kept r j));
      reached = λ r j. step_sound es c.args.reached.now e there rs c.loop-edge.invariant.reached grew told r (subst (In r) grown j);
      closed = λ n. elim c.if-branch.branch [
        | then-branch w ↦ absurd (false≢true (sym n ∙ w.grew-is))
        | else-branch w ↦ closed_step es i blank c.loop-edge-test.true rs new (subst (λ b. new ≡ stepped b e rs) w.if-branch.false grown) (subst (λ b. b ≡ leads e rs) w.if-branch.false told) (c.loop-edge.invariant.closed (sym w.grew-is ∙ n))
      ];
      fewer = λ t. elim c.if-branch.branch [
        | then-branch w ↦ fewer_step es e there c.args.reached.now rs new c.loop-edge.invariant.kept (subst (λ b. new ≡ stepped b e rs) w.if-branch.true grown) (subst (λ b. b ≡ leads e rs) w.if-branch.true told)
        | else-branch w ↦ subst (λ z. count_outside es z < count_outside es c.args.reached.now) (sym (subst (λ b. new ≡ stepped b e rs) w.if-branch.false grown)) (c.loop-edge.invariant.fewer (sym w.grew-is ∙ t))
      ];
    }

pub returns-clause-closed : goal.returns-clause-closed
returns-clause-closed c = λ n. subst (λ z. IsClosed z c.loop-edge.reached) (take_all c.loop-edge.edge-index c.args.edges.now c.loop-edge-test.false) (c.loop-edge.invariant.closed n)
