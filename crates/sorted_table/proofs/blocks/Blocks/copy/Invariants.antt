use Rattle.std.proofs.Common.{◌≡◌, All, take}
use Rattle.sorted_table.specs.Parts.{rows_of, all_rows, all_over, IsBlock}
use Rattle.sorted_table.specs.Tabled.{Tabled}
use Rattle.sorted_table.proofs.blocks.Blocks.copy.Given as goal

abbrev pub invariant-loop-at : goal.invariant-loop-at
invariant-loop-at g l =
    (rows_of l.blocks.items ≡ rows_of (take l.at l.self-inside.blocks.items))
    × All (λ (b : Tabled g.row.T.Denot). IsBlock 128 b) l.blocks.items
    × (all_rows l.blocks.items ≡ all_rows (take l.at l.self-inside.blocks.items))
    × (all_over l.blocks.items ≡ all_over (take l.at l.self-inside.blocks.items))
