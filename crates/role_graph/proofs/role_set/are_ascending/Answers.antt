use Rattle.std.proofs.Common.{◌≡◌, ◌-◌, ◌≤◌, suc, length, get_or, refl, sym, subst, ◌∙◌, arith}
use Rattle.std.proofs.lemmas.Bool.{false≢true}
use Rattle.cry_base.specs.declared.roles.Role.{Role}
use Rattle.role_graph.proofs.InSteps.{ascending_steps, steps_all}
use Rattle.role_graph.proofs.Rising.{Before}
use Rattle.role_graph.proofs.role_set.are_ascending.Goals as goal

pub returns-then-not-is_before : goal.returns-then-not-is_before
returns-then-not-is_before c = (
  λ told. absurd (false≢true told),
  λ up.
      let roles = c.args.roles.now in
      let at = c.loop-at.at in
      let here : suc (at - 1) ≡ at = omega (arith, c.loop-at.invariant.0) in
      let step : (d : Role) → Before (get_or roles (at - 1) d) (get_or roles at d) = λ d. subst (λ k. Before (get_or roles (at - 1) d) (get_or roles k d)) here (ascending_steps roles up (at - 1) d (omega (arith, here, c.loop-at-test.true))) in
      sym c.if-not-is_before.true ∙ c.is_before.ensures ∙ step _,
)

pub returns : goal.returns
returns c =
    let all : length c.args.roles.now ≤ c.loop-at.at = omega (arith, c.loop-at-test.false) in
    (λ told. steps_all c.args.roles.now c.loop-at.at all c.loop-at.invariant.1, λ up. refl)
