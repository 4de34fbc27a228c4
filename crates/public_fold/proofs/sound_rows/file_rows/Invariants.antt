use Rattle.std.proofs.Common.{◌≡◌, map, take}
use Rattle.public_fold.specs.RowTests.{bare_file}
use Rattle.public_fold.proofs.sound_rows.file_rows.Given as goal

abbrev pub invariant-loop-row : goal.invariant-loop-row
invariant-loop-row l = l.found.items ≡ map bare_file (take l.row-index l.rows)
