use Rattle.std.proofs.Common.{add-one, sym}
use Rattle.sorted_table.proofs.Placed.{to-here, to-gap}
use Rattle.sorted_table.proofs.table.rows_to.Goals as goal

pub returns-in-Ok : goal.returns-in-Ok
returns-in-Ok g c = rw add-one (sym (to-here _ g.T.Ranked.rank c.args.rows.now _ c.in-Ok.at c.requires c.in-Ok.ensures.found))

pub returns-in-Err : goal.returns-in-Err
returns-in-Err g c = sym (to-gap _ g.T.Ranked.rank c.args.rows.now _ c.in-Err.at c.in-Err.ensures.absent)
