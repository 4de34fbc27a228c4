use Rattle.std.proofs.Common.{◌≡◌, ◌++◌, length, sym, ap, subst, ◌∙◌, arith, rules}
use mathlib.Core.List.{reverse}
use Rattle.sorted_table.specs.Parts.{rows_of}
use Rattle.sorted_table.specs.Rows.{IsRising}
use Rattle.sorted_table.proofs.Spared.{no_rows, rows_counted}
use Rattle.sorted_table.proofs.blocks.Blocks.of_table.Goals as goal

pub invariant_of-result : goal.invariant_of-result
invariant_of-result g c =
    let rank = g.T.Ranked.rank in
    let made = reverse c.loop-rows.blocks.items in
    let none = no_rows _ c.loop-rows.rows.rows (omega (arith, c.len.ensures, c.loop-rows-test.false)) in
    let whole : c.args.rows.rows ≡ rows_of made = c.loop-rows.invariant.0 ∙ ap (λ l. l ++ rows_of made) none in
    let rising : IsRising rank c.args.rows.rows = rw (← c.rows.view_is) c.rows.invariant in
    rw c.reverse.ensures.items (
      subst (IsRising rank) whole rising,
      c.loop-rows.invariant.1,
      search rules,
      search rules,
      search rules,
      c.len-count.ensures ∙ ap (λ l. length l) whole ∙ rows_counted _ made,
      sym c.loop-rows.invariant.2,
    )
