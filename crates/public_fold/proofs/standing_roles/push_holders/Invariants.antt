use Rattle.std.proofs.Common.{◌≡◌, ◌++◌, map}
use Rattle.std.specs.List.{range_with_len}
use Rattle.role_graph.specs.Roles.{holder_role}
use Rattle.public_fold.proofs.standing_roles.push_holders.Given as goal

abbrev pub invariant-loop-before : goal.invariant-loop-before
invariant-loop-before l = l.all.items ≡ l.initial.all.items ++ map holder_role (range_with_len 1 l.before)
