use Rattle.std.proofs.Common.{◌≡◌, take}
use Rattle.role_graph.proofs.role_set.RoleSet.to_list.Given as goal

abbrev pub invariant-loop-role : goal.invariant-loop-role
invariant-loop-role l = l.list.items ≡ take l.role-index l.role-items
