use Rattle.std.proofs.Common.{◌∙◌, sym, subst, refl, arith}
use Rattle.sorted_table.specs.Places.{IsGapFor}
use Rattle.sorted_table.specs.Rows.{IsRising}
use Rattle.sorted_table.proofs.Placed.{row_at-here, with_row-gap}
use Rattle.sorted_table.proofs.Rising.{rising-with_row}
use Rattle.sorted_table.proofs.table.Table.insert.Goals as goal

pub unreachable-requires : goal.unreachable-requires
unreachable-requires g c =
    let found = c.in_default.ensures.found in
    let here = row_at-here _ g.T.Ranked.rank c.self.inside.rows.items _ c.in_default.field-0 c.self.invariant (rw c.deref.ensures.value at found) c.args.row in
    let absent = rw (← c.self.view_is) at c.requires.absent in
    cc

pub returns-clause-rows : goal.returns-clause-rows
returns-clause-rows g c =
    let rank = g.T.Ranked.rank in
    let rows = c.self.inside.rows.items in
    let room = rw (← c.self.view_is) at c.requires.room in
    let gap : IsGapFor rank rows (rank c.args.row) c.in-Err.at = rw c.deref.ensures.value at c.in-Err.ensures.absent in
    let inserted = rw (c.insert.ensures.succeeds (omega arith)) at c.insert.ensures.items in
    rw (← c.self.view_is) (inserted ∙ sym (with_row-gap _ rank rows _ c.in-Err.at gap c.args.row refl))

pub invariant_of-self : goal.invariant_of-self
invariant_of-self g c =
    let rank = g.T.Ranked.rank in
    let rows = c.self.inside.rows.items in
    let room = rw (← c.self.view_is) at c.requires.room in
    let gap : IsGapFor rank rows (rank c.args.row) c.in-Err.at = rw c.deref.ensures.value at c.in-Err.ensures.absent in
    let inserted = rw (c.insert.ensures.succeeds (omega arith)) at c.insert.ensures.items in
    let then = inserted ∙ sym (with_row-gap _ rank rows _ c.in-Err.at gap c.args.row refl) in
    subst (IsRising rank) (sym then) (rising-with_row _ rank _ c.self.invariant c.args.row)
