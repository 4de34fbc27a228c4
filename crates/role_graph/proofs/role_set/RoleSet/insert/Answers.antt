use Rattle.std.proofs.Common.{sym, ◌∙◌, subst}
use Rattle.role_graph.specs.Ascending.{IsAscending}
use Rattle.role_graph.proofs.Rising.{with_ascending}
use Rattle.role_graph.proofs.role_set.RoleSet.insert.Goals as goal

pub invariant_of-self : goal.invariant_of-self
invariant_of-self c =
    let told = rw c.as_slice.ensures.value at c.in-Err.ensures.absent in
    subst IsAscending (sym (c.in_ok-insert.ensures.items ∙ told.1)) (with_ascending c.args.role c.self.inside.roles.items c.self.invariant)

pub returns-in_ok-insert-clause-ascending : goal.returns-in_ok-insert-clause-ascending
returns-in_ok-insert-clause-ascending c =
    let told = rw c.as_slice.ensures.value at c.in-Err.ensures.absent in
    subst IsAscending (sym (c.in_ok-insert.ensures.items ∙ told.1)) (with_ascending c.args.role c.self.inside.roles.items c.self.invariant)
