use Rattle.std.proofs.Common.{◌+◌, ◌^◌, ◌<◌, nat_le, length, sym, ap, ◌∙◌, arith, rules}
use Rattle.std.proofs.lemmas.List.{take_rest}
use Rattle.sorted_table.specs.Parts.{rows_of, IsBlockFor}
use Rattle.sorted_table.proofs.Blocked.{rows_on}
use Rattle.sorted_table.proofs.Spared.{rows_counted, fewer_kept}
use Rattle.sorted_table.proofs.blocks.Blocks.rows_from.Goals as goal

pub returns-clause-rows : goal.returns-clause-rows
returns-clause-rows g c =
    let rank = g.T.Ranked.rank in
    let blocks = c.self.inside.blocks.items in
    let k = g.K.Key.sought c.args.key.now in
    let place : IsBlockFor rank blocks k c.in-Some.at = rw c.deref.ensures.value at c.in-Some.ensures in
    let here = c.index.result.now in
    let told = rw c.deref-2.ensures.value at c.new-2.ensures in
    let behind = take_rest blocks (c.in-Some.at + 1) in
    rw (← c.self.view_is) (rw (behind, c.rows_from.ensures) at told ∙ sym (rows_on _ rank k blocks c.in-Some.at place here c.index.ensures (c.in-Some.at + 1) (omega arith)))

pub returns-clause-counted : goal.returns-clause-counted
returns-clause-counted g c =
    let rank = g.T.Ranked.rank in
    let blocks = c.self.inside.blocks.items in
    let k = g.K.Key.sought c.args.key.now in
    let place : IsBlockFor rank blocks k c.in-Some.at = rw c.deref.ensures.value at c.in-Some.ensures in
    let here = c.index.result.now in
    let told = rw c.deref-2.ensures.value at c.new-2.ensures in
    let behind = take_rest blocks (c.in-Some.at + 1) in
    let is = rw (behind, c.rows_from.ensures) at told ∙ sym (rows_on _ rank k blocks c.in-Some.at place here c.index.ensures (c.in-Some.at + 1) (omega arith)) in
    let same = ap (λ l. length l) is in
    let fewer = fewer_kept _ (λ r. nat_le k (rank r)) (rows_of blocks) in
    let counted = rows_counted _ blocks in
    let kept = c.self.invariant.5 in
    let bound : c.self.inside.count < 2 ^ 64 = search rules in
    omega (arith, same, fewer, counted, kept, bound)
