use Rattle.std.proofs.Common.{◌≡◌, ◌+◌, ◌≤◌, ◌++◌, vec_len, vec_capacity}
use mathlib.Core.List.{reverse}
use Rattle.sorted_table.proofs.table.Table.move_tail.Given as goal

abbrev pub invariant-loop-self : goal.invariant-loop-self
invariant-loop-self g l =
    (l.initial.self-inside.rows.items ≡ l.self-inside.rows.items ++ reverse l.tail-inside.rows.items)
    × (vec_len l.initial.self-inside.rows ≡ vec_len l.self-inside.rows + vec_len l.tail-inside.rows)
    × (l.at ≤ vec_len l.self-inside.rows)
    × (vec_capacity l.initial.self-inside.rows ≤ vec_capacity l.self-inside.rows)
    × (vec_capacity l.initial.tail-inside.rows ≤ vec_capacity l.tail-inside.rows)

abbrev pub decreases-loop-self : goal.decreases-loop-self
decreases-loop-self g l = vec_len l.self-inside.rows
