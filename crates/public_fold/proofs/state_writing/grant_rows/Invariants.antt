use Rattle.std.proofs.Common.{◌≡◌, map, take}
use Rattle.public_fold.specs.States.{grant_row}
use Rattle.public_fold.proofs.state_writing.grant_rows.Given as goal

abbrev pub invariant-loop-pair : goal.invariant-loop-pair
invariant-loop-pair l = l.rows.items ≡ map grant_row (take l.pair-index l.pairs)
