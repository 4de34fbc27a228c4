use Rattle.std.proofs.Common.{◌≡◌, filter, take}
use Rattle.cry_base.specs.Sets.{has}
use Rattle.role_graph.specs.Roles.{same_role}
use Rattle.model_tests.proofs.passes.those_in.Given as goal

abbrev pub invariant-loop-role : goal.invariant-loop-role
invariant-loop-role l = l.found.items ≡ filter (has same_role l.set) (take l.role-index l.roles)
