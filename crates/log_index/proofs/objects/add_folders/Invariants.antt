use Rattle.std.proofs.Common.{◌≡◌, ◌++◌, map}
use Rattle.log_index.specs.Objects.{folder_object}
use Rattle.log_index.proofs.objects.add_folders.Given as goal

abbrev pub invariant-loop-folder : goal.invariant-loop-folder
invariant-loop-folder l =
    l.all.items ++ map (λ r. folder_object r.id.0) l.folder-iterator ≡ l.initial.all.items ++ map (λ r. folder_object r.id.0) l.fn.folders
