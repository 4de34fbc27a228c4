use Rattle.std.proofs.Common.{◌≡◌, ◌++◌, map}
use Rattle.public_fold.specs.StandingRoles.{folder_role}
use Rattle.public_fold.proofs.standing_roles.push_folders.Given as goal

abbrev pub invariant-loop-folder : goal.invariant-loop-folder
invariant-loop-folder l = l.all.items ++ map (λ r. folder_role l.key r.id.0) l.folder-iterator ≡ l.initial.all.items ++ map (λ r. folder_role l.key r.id.0) l.fn.folders
