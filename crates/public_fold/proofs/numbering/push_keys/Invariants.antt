use Rattle.std.proofs.Common.{◌≡◌, ◌+◌, ◌++◌, drop}
use Rattle.public_fold.specs.KeyStep.{numbered}
use Rattle.public_fold.proofs.numbering.push_keys.Given as goal

abbrev pub invariant-loop-role : goal.invariant-loop-role
invariant-loop-role l = record {
  at : l.next ≡ l.first + l.role-index;
  so_far : l.keys.items ++ numbered l.next (drop l.role-index l.roles) ≡ l.initial.keys.items ++ numbered l.first l.roles;
}
