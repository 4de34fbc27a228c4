use Rattle.std.proofs.Common.{sym, refl}
use Rattle.sorted_table.proofs.Placed.{row_at-gap, replaced-here}
use Rattle.sorted_table.proofs.table.Table.replace.Goals as goal

pub unreachable-requires : goal.unreachable-requires
unreachable-requires g c =
    let absent = c.in_default.ensures.absent in
    let nowhere = row_at-gap _ g.T.Ranked.rank c.self.inside.rows.items _ c.in_default.field-0 (rw c.deref.ensures.value at absent) in
    let some = rw (← c.self.view_is, nowhere) at c.requires in
    cc

pub returns-clause-rows : goal.returns-clause-rows
returns-clause-rows g c =
    let found = c.in-Ok.ensures.found in
    rw (← c.self.view_is) (sym (replaced-here _ g.T.Ranked.rank c.self.inside.rows.items _ c.in-Ok.at c.self.invariant (rw c.deref.ensures.value at found) c.args.row refl))
