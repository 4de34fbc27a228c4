use Rattle.std.proofs.Common.{◌≡◌, ◌++◌}
use Rattle.role_graph.proofs.role_set.RoleSet.of_seen.Given as goal

abbrev pub invariant-loop-role : goal.invariant-loop-role
invariant-loop-role l = l.roles.items ++ l.role-iterator ≡ l.seen.keys
