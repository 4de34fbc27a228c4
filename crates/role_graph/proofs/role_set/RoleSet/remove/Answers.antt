use Rattle.std.proofs.Common.{sym, ◌∙◌, subst}
use Rattle.role_graph.specs.Ascending.{IsAscending}
use Rattle.role_graph.proofs.Rising.{without_ascending}
use Rattle.role_graph.proofs.role_set.RoleSet.remove.Goals as goal

pub invariant_of-self : goal.invariant_of-self
invariant_of-self c =
    let told = rw c.as_slice.ensures.value at c.in-Ok.ensures.found in
    subst IsAscending (sym (c.remove-role.ensures.items ∙ told.1)) (without_ascending c.args.role c.self.inside.roles.items c.self.invariant)
