use Rattle.std.proofs.Common.{◌≡◌, take}
use Rattle.public_fold.specs.StandingRoles.{rows_of_keys}
use Rattle.public_fold.proofs.state_writing.rows_of.Given as goal

abbrev pub invariant-loop-role : goal.invariant-loop-role
invariant-loop-role l = l.rows.items ≡ rows_of_keys l.keys.keys (take l.role-index l.roles)
