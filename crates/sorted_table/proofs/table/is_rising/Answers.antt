use Rattle.std.proofs.Common.{◌≤◌, length, refl, arith}
use Rattle.sorted_table.proofs.Rising.{rises_all}
use Rattle.sorted_table.proofs.table.is_rising.Goals as goal

pub returns : goal.returns
returns g c =
    let all : length c.args.rows.now ≤ c.loop-at.at = omega (arith, c.loop-at-test.false) in
    (λ _. rises_all g.row.T.Denot g.T.Ranked.rank c.args.rows.now c.loop-at.at all c.loop-at.invariant.1, λ _. refl)
