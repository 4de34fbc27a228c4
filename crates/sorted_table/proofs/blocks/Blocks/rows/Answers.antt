use Rattle.std.proofs.Common.{◌^◌, ◌<◌, length, ap, arith, rules}
use Rattle.sorted_table.proofs.Spared.{rows_counted}
use Rattle.sorted_table.proofs.blocks.Blocks.rows.Goals as goal

pub returns-clause-counted : goal.returns-clause-counted
returns-clause-counted g c =
    let told = rw c.deref.ensures.value at c.new.ensures in
    let same = ap (λ l. length l) told in
    let counted = rows_counted _ c.self.inside.blocks.items in
    let kept = c.self.invariant.5 in
    let bound : c.self.inside.count < 2 ^ 64 = search rules in
    omega (arith, same, counted, kept, bound)
