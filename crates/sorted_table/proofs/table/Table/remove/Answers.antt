use Rattle.std.proofs.Common.{◌∙◌, sym, ap, subst, Some}
use Rattle.sorted_table.specs.Rows.{IsRising}
use Rattle.sorted_table.proofs.Placed.{row_at-here, row_at-gap, without-here, without-gap}
use Rattle.sorted_table.proofs.Rising.{rising-without}
use Rattle.sorted_table.proofs.table.Table.remove.Goals as goal

pub returns-in-Ok-clause-rows : goal.returns-in-Ok-clause-rows
returns-in-Ok-clause-rows g c =
    let found = c.in-Ok.ensures.found in
    rw (← c.self.view_is) (c.remove.ensures.items ∙ sym (without-here _ g.T.Ranked.rank c.self.inside.rows.items _ c.in-Ok.at c.self.invariant (rw c.deref.ensures.value at found)))

pub invariant_of-self : goal.invariant_of-self
invariant_of-self g c =
    let found = c.in-Ok.ensures.found in
    subst (IsRising g.T.Ranked.rank) (without-here _ g.T.Ranked.rank c.self.inside.rows.items _ c.in-Ok.at c.self.invariant (rw c.deref.ensures.value at found) ∙ sym c.remove.ensures.items) (rising-without _ g.T.Ranked.rank c.self.inside.rows.items c.self.invariant _)

pub returns-in-Ok-clause-row : goal.returns-in-Ok-clause-row
returns-in-Ok-clause-row g c =
    let found = c.in-Ok.ensures.found in
    rw (← c.self.view_is) (ap Some c.remove.ensures.value ∙ sym (row_at-here _ g.T.Ranked.rank c.self.inside.rows.items _ c.in-Ok.at c.self.invariant (rw c.deref.ensures.value at found) c.remove.result))

pub returns-in-Err-clause-row : goal.returns-in-Err-clause-row
returns-in-Err-clause-row g c =
    let absent = c.in-Err.ensures.absent in
    rw (← c.self.view_is) (sym (row_at-gap _ g.T.Ranked.rank c.self.inside.rows.items _ c.in-Err.field-0 (rw c.deref.ensures.value at absent)))

pub returns-in-Err-clause-rows : goal.returns-in-Err-clause-rows
returns-in-Err-clause-rows g c =
    let absent = c.in-Err.ensures.absent in
    rw (← c.self.view_is) (sym (without-gap _ g.T.Ranked.rank c.self.inside.rows.items _ c.in-Err.field-0 (rw c.deref.ensures.value at absent)))
