use Rattle.std.proofs.Common.{◌≤◌}
use Rattle.sorted_table.proofs.Rising.{RisesBelow}
use Rattle.sorted_table.proofs.table.is_rising.Given as goal

abbrev pub invariant-loop-at : goal.invariant-loop-at
invariant-loop-at g l = (1 ≤ l.at) × RisesBelow g.T.Ranked.rank l.rows l.at
