use Rattle.std.proofs.Common.{◌≡◌, ◌++◌, map}
use Rattle.folder_nodes.specs.Bare.{folder_of_row}
use Rattle.public_fold.specs.States.{folder_row}
use Rattle.public_fold.proofs.state_writing.folder_rows.Given as goal

abbrev pub invariant-loop-folder : goal.invariant-loop-folder
invariant-loop-folder l = l.rows.items ++ map folder_row (map folder_of_row l.folder-iterator) ≡ map folder_row l.shape.tree.folders
