use Rattle.std.proofs.Common.{subst, sym}
use Rattle.sorted_table.specs.Rows.{IsRising}
use Rattle.sorted_table.proofs.Rising.{rising-items_where_true}
use Rattle.sorted_table.proofs.table.Table.retain.Goals as goal

pub invariant_of-self : goal.invariant_of-self
invariant_of-self g c =
    let kept = c.retain.ensures.filtered in
    subst (IsRising g.T.Ranked.rank) (sym kept.4) (rising-items_where_true _ g.T.Ranked.rank kept.0 c.self.inside.rows.items c.self.invariant)
