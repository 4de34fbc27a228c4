use Rattle.std.proofs.Common.{◌≡◌, ◌++◌, take}
use Rattle.public_fold.proofs.lists.push_roles.Given as goal

abbrev pub invariant-loop-role : goal.invariant-loop-role
invariant-loop-role l = l.all.items ≡ l.initial.all.items ++ take l.role-index l.roles
