use Rattle.std.proofs.Common.{◌≡◌, filter, take}
use Rattle.rekey_walk.specs.Strict.{may_renew}
use Rattle.rekey_walk.proofs.strict.renewable.Given as goal

abbrev pub invariant-loop-role : goal.invariant-loop-role
invariant-loop-role l = l.found.items ≡ filter (may_renew l.gone) (take l.role-index l.roles)
