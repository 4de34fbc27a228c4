use Rattle.std.proofs.Common.{◌≡◌, ◌+◌, ◌-◌, ◌<◌, length, sym, ◌∙◌, Less, arith}
use Rattle.std.proofs.lemmas.Cmp.{ranked}
use Rattle.std.proofs.lemmas.List.Elements.{All-from_all_within}
use Rattle.sorted_table.proofs.Searched.{behind_all}
use Rattle.sorted_table.proofs.table.Table.ends_below.Goals as goal

pub returns-in-Less : goal.returns-in-Less
returns-in-Less g c =
    let rank = g.T.Ranked.rank in
    let rows = c.self.inside.rows.items in
    let k = g.K.Key.sought c.args.key.now in
    let row = c.in-Some.row.now in
    let less = ranked _ k Less (sym c.in-Less.is ∙ c.compare_row.ensures) in
    let item = rw c.deref.ensures.value at c.in-Some.ensures.item in
    let some = item.3.0 in
    let size : length rows ≡ length rows - 1 + 1 = omega (arith, some) in
    let gap = behind_all _ rank rows k (length rows - 1) row c.self.invariant size item.1 less in
    rw (← c.self.view_is) (λ _. All-from_all_within (λ r. rank r < k) rows gap.1)
