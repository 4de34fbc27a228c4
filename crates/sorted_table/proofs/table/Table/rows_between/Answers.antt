use Rattle.std.proofs.Common.{◌∙◌, Bool, ap, filter, nat_le}
use Rattle.sorted_table.proofs.Placed.{filter-both}
use Rattle.sorted_table.proofs.Rising.{rising-kept}
use Rattle.sorted_table.proofs.table.Table.rows_between.Goals as goal

pub rows_to-requires : goal.rows_to-requires
rows_to-requires g c =
    let low : g.row.T.Denot → Bool = λ r. nat_le (g.K.Key.sought c.args.first.now) (g.T.Ranked.rank r) in
    rising-kept g.row.T.Denot g.T.Ranked.rank low c.self.inside.rows.items c.rows_from.result.now c.self.invariant (c.rows_from.ensures ∙ ap (filter low) c.deref.ensures.value)

pub returns-clause-rows : goal.returns-clause-rows
returns-clause-rows g c =
    let low : g.row.T.Denot → Bool = λ r. nat_le (g.K.Key.sought c.args.first.now) (g.T.Ranked.rank r) in
    let high : g.row.T.Denot → Bool = λ r. nat_le (g.T.Ranked.rank r) (g.K.Key.sought c.args.last.now) in
    rw (← c.self.view_is) (c.rows_to.ensures ∙ ap (filter high) (c.rows_from.ensures ∙ ap (filter low) c.deref.ensures.value) ∙ filter-both g.row.T.Denot low high c.self.inside.rows.items)

pub returns-clause-rising : goal.returns-clause-rising
returns-clause-rising g c =
    let low : g.row.T.Denot → Bool = λ r. nat_le (g.K.Key.sought c.args.first.now) (g.T.Ranked.rank r) in
    let high : g.row.T.Denot → Bool = λ r. nat_le (g.T.Ranked.rank r) (g.K.Key.sought c.args.last.now) in
    rising-kept g.row.T.Denot g.T.Ranked.rank high c.rows_from.result.now c.rows_to.result.now
    (rising-kept g.row.T.Denot g.T.Ranked.rank low c.self.inside.rows.items c.rows_from.result.now c.self.invariant (c.rows_from.ensures ∙ ap (filter low) c.deref.ensures.value))
    c.rows_to.ensures
