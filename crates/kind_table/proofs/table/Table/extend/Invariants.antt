use Rattle.kind_table.proofs.Walking.{Walked}
use Rattle.kind_table.proofs.table.Table.extend.Given as goal

abbrev pub invariant-loop-row : goal.invariant-loop-row
invariant-loop-row g l = Walked l.self.rows l.a l.row-index l.initial.reached.has l.reached.has l.grew
