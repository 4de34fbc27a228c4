use Rattle.std.proofs.Common.{◌≡◌, All, map, take}
use Rattle.index_format.specs.Writable.{IsCheckRow}
use Rattle.public_fold.specs.States.{check_row}
use Rattle.public_fold.proofs.state_writing.check_rows.Given as goal

abbrev pub invariant-loop-before : goal.invariant-loop-before
invariant-loop-before l = record { taken : l.rows.items ≡ map check_row (take l.before l.grants.checks); whole : All IsCheckRow l.rows.items }
