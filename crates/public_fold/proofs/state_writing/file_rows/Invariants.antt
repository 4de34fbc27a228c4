use Rattle.std.proofs.Common.{◌≡◌, ◌++◌, map}
use Rattle.folder_nodes.specs.Bare.{file_of_row}
use Rattle.public_fold.specs.States.{file_row}
use Rattle.public_fold.proofs.state_writing.file_rows.Given as goal

abbrev pub invariant-loop-file : goal.invariant-loop-file
invariant-loop-file l = l.rows.items ++ map file_row (map file_of_row l.file-iterator) ≡ map file_row l.shape.tree.files
