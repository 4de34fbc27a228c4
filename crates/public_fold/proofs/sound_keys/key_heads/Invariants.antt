use Rattle.std.proofs.Common.{◌≡◌, ◌∷◌, map, take}
use Rattle.cry_base.specs.declared.roles.Role.TheVariants.{Owner}
use Rattle.public_fold.specs.States.{key_of_row}
use Rattle.public_fold.proofs.sound_keys.key_heads.Given as goal

abbrev pub invariant-loop-row : goal.invariant-loop-row
invariant-loop-row l = l.found.items ≡ (Owner, 0) ∷ map key_of_row (take l.row-index l.rows)
