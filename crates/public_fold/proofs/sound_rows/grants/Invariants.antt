use Rattle.std.proofs.Common.{◌≡◌, map, take}
use Rattle.public_fold.specs.States.{grant_of_row}
use Rattle.public_fold.proofs.sound_rows.grants.Given as goal

abbrev pub invariant-loop-row : goal.invariant-loop-row
invariant-loop-row l = l.found.items ≡ map grant_of_row (take l.row-index l.rows)
