use Rattle.std.proofs.Common.{arith, ap, ◌∙◌}
use Rattle.role_graph.specs.LookedUp.{LookedUp}
use Rattle.role_graph.specs.PublicStore.{public_store}
use Rattle.public_fold.specs.Standing.{PublicView}
use Rattle.public_fold.proofs.StaysRooted.{folders_below}
use Rattle.public_fold.proofs.step.due_counted.Goals as goal

pub new-roles-requires : goal.new-roles-requires
new-roles-requires c = folders_below _ c.state.invariant.stands

pub due_of-due-requires : goal.due_of-due-requires
due_of-due-requires c = ap (λ (l : LookedUp). l.store) c.new-roles.ensures ∙ ap (λ (w : PublicView). public_store w.tree w.pairs) c.state.view_is

pub returns-clause-look_ups : goal.returns-clause-look_ups
returns-clause-look_ups c =
    let begins = ap (λ (l : LookedUp). l.steps) c.new-roles.ensures ∙ c.replace-taken.ensures.value in
    let few = c.due_of-due.ensures.look_ups in
    let ends = c.into_steps.ensures in
    omega (arith, begins, few, ends)
