use Rattle.std.proofs.Common.{◌≡◌, drop}
use Rattle.role_graph.specs.Roles.{same_role}
use Rattle.public_fold.specs.KeyStep.{without}
use Rattle.public_fold.proofs.marks.clean.Given as goal

abbrev pub invariant-loop-role : goal.invariant-loop-role
invariant-loop-role l = without same_role (drop l.role-index l.roles) l.dirty ≡ without same_role l.roles l.initial.dirty
