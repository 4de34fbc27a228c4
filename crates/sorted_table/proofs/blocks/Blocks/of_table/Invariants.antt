use Rattle.std.proofs.Common.{◌≡◌, ◌++◌, length, All}
use mathlib.Core.List.{reverse}
use Rattle.sorted_table.specs.Parts.{rows_of, all_over, IsBlock}
use Rattle.sorted_table.specs.Tabled.{Tabled}
use Rattle.sorted_table.proofs.blocks.Blocks.of_table.Given as goal

abbrev pub invariant-loop-rows : goal.invariant-loop-rows
invariant-loop-rows g l =
    (l.initial.rows.rows ≡ l.rows.rows ++ rows_of (reverse l.blocks.items))
    × All (λ (b : Tabled g.row.T.Denot). IsBlock 128 b) (reverse l.blocks.items)
    × (all_over (reverse l.blocks.items) ≡ 0)

abbrev pub decreases-loop-rows : goal.decreases-loop-rows
decreases-loop-rows g l = length l.rows.rows
