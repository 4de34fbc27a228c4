use Rattle.std.proofs.Common.{◌∙◌, sym, ap, Some}
use Rattle.sorted_table.proofs.Placed.{row_at-here, row_at-gap}
use Rattle.sorted_table.proofs.table.Table.find.Goals as goal

pub returns-in-Ok-clause-row : goal.returns-in-Ok-clause-row
returns-in-Ok-clause-row g c =
    let found = c.in-Ok.ensures.found in
    rw (← c.self.view_is) (ap Some c.index.ensures ∙ sym (row_at-here _ g.T.Ranked.rank c.self.inside.rows.items _ c.in-Ok.at c.self.invariant (rw c.deref.ensures.value at found) c.index.result.now))

pub returns-in-Err-clause-row : goal.returns-in-Err-clause-row
returns-in-Err-clause-row g c =
    let absent = c.in-Err.ensures.absent in
    rw (← c.self.view_is) (sym (row_at-gap _ g.T.Ranked.rank c.self.inside.rows.items _ c.in-Err.field-0 (rw c.deref.ensures.value at absent)))
