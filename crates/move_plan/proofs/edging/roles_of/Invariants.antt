use Rattle.std.proofs.Common.{◌≡◌, take}
use Rattle.move_plan.proofs.edging.roles_of.Given as goal

abbrev pub invariant-loop-role : goal.invariant-loop-role
invariant-loop-role l = l.list.items ≡ take l.role-index l.roles
