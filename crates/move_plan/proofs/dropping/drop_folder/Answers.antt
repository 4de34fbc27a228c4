use Rattle.std.proofs.Common.{◌≤◌, ◌+◌, ◌*◌, List, length, subst}
use Rattle.cry_base.specs.Store.{Store}
use Rattle.cry_base.specs.declared.roles.Role.{Role}
use Rattle.role_graph.specs.Adjacent.{at_roles}
use Rattle.role_graph.specs.Edges.{edges}
use Rattle.move_plan.specs.Change.{row_change, without_roles}
use Rattle.move_plan.proofs.dropping.drop_folder.Goals as goal

pub returns-clause-steps : goal.returns-clause-steps
unfolding row_change without_roles
returns-clause-steps g c =
    let s : Store = g.R.Adjacent.store c.args.roles.now in
    subst (λ (l : List Role). g.R.Adjacent.steps c.drop_roles.new.roles ≤ g.R.Adjacent.steps c.args.roles.now + (length (at_roles (edges s) l) + 2 * length l)) c.folder_roles.ensures c.drop_roles.ensures.steps
