use Rattle.std.proofs.Common.{◌≡◌, map, take}
use Rattle.public_fold.specs.States.{role_of_mark}
use Rattle.public_fold.proofs.sound_marks.mark_roles.Given as goal

abbrev pub invariant-loop-row : goal.invariant-loop-row
invariant-loop-row l = l.found.items ≡ map role_of_mark (take l.row-index l.rows)
