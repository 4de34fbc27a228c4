use Rattle.std.proofs.Common.{◌≡◌, ◌-◌, ◌≤◌, All, vec_len, vec_capacity}
use Rattle.sorted_table.specs.Parts.{IsFresh}
use Rattle.sorted_table.specs.Tabled.{Tabled}
use Rattle.sorted_table.proofs.blocks.Blocks.reserve.Given as goal

abbrev pub invariant-loop-self : goal.invariant-loop-self
invariant-loop-self g l =
    (l.self-inside.blocks ≡ l.initial.self-inside.blocks)
    × (l.self-inside.count ≡ l.initial.self-inside.count)
    × (l.self-inside.beyond ≡ l.initial.self-inside.beyond)
    × All (λ (b : Tabled g.row.T.Denot). IsFresh 128 b) l.self-inside.fresh.items
    × (vec_len l.initial.self-inside.fresh ≤ vec_len l.self-inside.fresh)
    × (vec_len l.self-inside.fresh ≤ l.wanted)
    × (vec_capacity l.initial.self-inside.fresh ≤ vec_capacity l.self-inside.fresh)

abbrev pub decreases-loop-self : goal.decreases-loop-self
decreases-loop-self g l = l.wanted - vec_len l.self-inside.fresh
