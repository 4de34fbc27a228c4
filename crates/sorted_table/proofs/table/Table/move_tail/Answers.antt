use Rattle.std.proofs.Common.{◌<◌, sym, subst}
use mathlib.Core.List.{reverse}
use Rattle.sorted_table.specs.Rows.{IsRising}
use Rattle.sorted_table.proofs.Parted.{pairs_parts}
use Rattle.sorted_table.proofs.table.Table.move_tail.Goals as goal

pub invariant_of-tail : goal.invariant_of-tail
invariant_of-tail g c =
    let rank = g.T.Ranked.rank in
    let parts = pairs_parts _ (λ x y. rank x < rank y) c.loop-self.self-inside.rows.items (reverse c.loop-self.tail-inside.rows.items)
    (subst (IsRising rank) c.loop-self.invariant.0 c.self.invariant) in
    subst (IsRising rank) (sym c.reverse.ensures.items) parts.1
