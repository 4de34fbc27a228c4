use Rattle.std.proofs.Common.{◌≡◌, ◌<◌, ◌≤◌, ℕ, length, map, get_or}
use Rattle.public_fold.specs.KeyTables.{least}
use Rattle.public_fold.proofs.by_kind.KeysByKind.reserve.Given as goal

abbrev pub invariant-loop-kind : goal.invariant-loop-kind
invariant-loop-kind l = record {
  seven : length l.self-inside.tables ≡ 7;
  rows : map (λ t. t.rows) l.self-inside.tables ≡ map (λ t. t.rows) l.initial.self-inside.tables;
  kept : least (map (λ t. t.spare) l.initial.self-inside.tables) ≤ least (map (λ t. t.spare) l.self-inside.tables);
  room : (i d : ℕ) → i < l.kind → l.more ≤ get_or (map (λ t. t.spare) l.self-inside.tables) i d;
}
