use Rattle.std.proofs.Common.{◌≡◌, ◌++◌, map}
use Rattle.log_index.specs.Objects.{file_object}
use Rattle.log_index.proofs.objects.add_files.Given as goal

abbrev pub invariant-loop-file : goal.invariant-loop-file
invariant-loop-file l = l.all.items ++ map (λ r. file_object r.id.0) l.file-iterator ≡ l.initial.all.items ++ map (λ r. file_object r.id.0) l.fn.files
