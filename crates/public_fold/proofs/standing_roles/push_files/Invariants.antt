use Rattle.std.proofs.Common.{◌≡◌, ◌++◌, map}
use Rattle.role_graph.specs.Roles.{file_role}
use Rattle.public_fold.proofs.standing_roles.push_files.Given as goal

abbrev pub invariant-loop-file : goal.invariant-loop-file
invariant-loop-file l = l.all.items ++ map (λ r. file_role r.id.0) l.file-iterator ≡ l.initial.all.items ++ map (λ r. file_role r.id.0) l.fn.files
