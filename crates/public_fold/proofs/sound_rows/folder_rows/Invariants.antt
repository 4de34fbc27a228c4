use Rattle.std.proofs.Common.{◌≡◌, map, take}
use Rattle.public_fold.specs.RowTests.{bare_folder}
use Rattle.public_fold.proofs.sound_rows.folder_rows.Given as goal

abbrev pub invariant-loop-row : goal.invariant-loop-row
invariant-loop-row l = l.found.items ≡ map bare_folder (take l.row-index l.rows)
