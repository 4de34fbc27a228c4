use Rattle.std.proofs.Common.{◌+◌, ◌≤◌, ◌++◌, ℕ, List, map, reverse}
use Rattle.cry_base.specs.declared.roles.Role.{Role}
use Rattle.public_fold.specs.KeyTables.{IsTableOf}
use Rattle.public_fold.proofs.by_kind.add_keys.Given as goal

abbrev pub invariant-loop-key : goal.invariant-loop-key
invariant-loop-key l = (keys : List (Role × ℕ)) → IsTableOf keys l.initial.rows → IsTableOf (reverse (map (λ key. key.now) l.yielded) ++ keys) l.rows
