use Rattle.std.proofs.Common.{◌≡◌, map, take}
use Rattle.public_fold.specs.States.{mark_row}
use Rattle.public_fold.proofs.state_writing.mark_rows.Given as goal

abbrev pub invariant-loop-role : goal.invariant-loop-role
invariant-loop-role l = l.rows.items ≡ map mark_row (take l.role-index l.marks)
