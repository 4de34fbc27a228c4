use Rattle.std.proofs.Common.{◌-◌}
use Rattle.kind_table.specs.Reached.{IsLedTo, size}
use Rattle.kind_table.proofs.table.Table.leads.Given as goal

abbrev pub invariant-loop-a : goal.invariant-loop-a
invariant-loop-a g l = IsLedTo l.self.rows l.a l.reached.has

abbrev pub decreases-loop-a : goal.decreases-loop-a
decreases-loop-a g l = 8 - size l.reached.has
