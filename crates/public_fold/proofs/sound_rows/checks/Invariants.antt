use Rattle.std.proofs.Common.{◌≡◌, map, take}
use Rattle.public_fold.proofs.sound_rows.checks.Given as goal

abbrev pub invariant-loop-row : goal.invariant-loop-row
invariant-loop-row l = l.found.items ≡ map (λ row. row.0) (take l.row-index l.rows)
