use Rattle.std.proofs.Common.{Bool, nat_le, length, filter, ap, ◌∙◌, arith}
use Rattle.sorted_table.proofs.Placed.{filter-both}
use Rattle.sorted_table.proofs.Rising.{rising-kept}
use Rattle.sorted_table.proofs.Spared.{fewer_kept}
use Rattle.sorted_table.proofs.blocks.Blocks.rows_between.Goals as goal

pub new-requires : goal.new-requires
new-requires g c =
    let rank = g.T.Ranked.rank in
    let low : g.row.T.Denot → Bool = λ r. nat_le (g.K.Key.sought c.args.first.now) (rank r) in
    rising-kept g.row.T.Denot rank low c.args.self.now.rows c.rows_from.result c.rows_from.ensures.rising c.rows_from.ensures.rows

pub returns-clause-rows : goal.returns-clause-rows
returns-clause-rows g c =
    let rank = g.T.Ranked.rank in
    let low : g.row.T.Denot → Bool = λ r. nat_le (g.K.Key.sought c.args.first.now) (rank r) in
    let high : g.row.T.Denot → Bool = λ r. nat_le (rank r) (g.K.Key.sought c.args.last) in
    c.new.ensures ∙ ap (filter high) c.rows_from.ensures.rows ∙ filter-both g.row.T.Denot low high c.args.self.now.rows

pub returns-clause-rising : goal.returns-clause-rising
returns-clause-rising g c =
    let rank = g.T.Ranked.rank in
    let low : g.row.T.Denot → Bool = λ r. nat_le (g.K.Key.sought c.args.first.now) (rank r) in
    let high : g.row.T.Denot → Bool = λ r. nat_le (rank r) (g.K.Key.sought c.args.last) in
    rising-kept g.row.T.Denot rank high c.rows_from.result c.new.result
    (rising-kept g.row.T.Denot rank low c.args.self.now.rows c.rows_from.result c.rows_from.ensures.rising c.rows_from.ensures.rows) c.new.ensures

pub returns-clause-counted : goal.returns-clause-counted
returns-clause-counted g c =
    let rank = g.T.Ranked.rank in
    let high : g.row.T.Denot → Bool = λ r. nat_le (rank r) (g.K.Key.sought c.args.last) in
    let same = ap (λ l. length l) c.new.ensures in
    let fewer = fewer_kept g.row.T.Denot high c.rows_from.result in
    omega (arith, same, fewer, c.rows_from.ensures.counted)
