use Rattle.std.proofs.Common.{sym}
use Rattle.std.proofs.lemmas.List.{take_rest}
use Rattle.sorted_table.proofs.Placed.{from-here, from-gap}
use Rattle.sorted_table.proofs.table.rows_from.Goals as goal

pub returns-in-Ok : goal.returns-in-Ok
returns-in-Ok g c = rw take_rest (sym (from-here _ g.T.Ranked.rank c.args.rows.now _ c.in-Ok.at c.requires c.in-Ok.ensures.found))

pub returns-in-Err : goal.returns-in-Err
returns-in-Err g c = rw take_rest (sym (from-gap _ g.T.Ranked.rank c.args.rows.now _ c.in-Err.at c.in-Err.ensures.absent))
