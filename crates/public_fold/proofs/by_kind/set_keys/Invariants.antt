use Rattle.std.proofs.Common.{◌+◌, ◌≤◌, ◌++◌, ℕ, List, length, map, reverse}
use Rattle.cry_base.specs.declared.roles.Role.{Role}
use Rattle.public_fold.specs.KeyTables.{IsTableOf}
use Rattle.public_fold.proofs.by_kind.set_keys.Given as goal

abbrev pub invariant-loop-key : goal.invariant-loop-key
invariant-loop-key l = record {
  set : (keys : List (Role × ℕ)) → IsTableOf keys l.initial.rows → IsTableOf (reverse (map (λ key. key.now) l.yielded) ++ keys) l.rows;
  room : length l.given ≤ l.rows.spare + length l.yielded;
  spare : l.initial.rows.spare ≤ l.rows.spare + length l.yielded;
}
