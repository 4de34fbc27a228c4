use Rattle.std.proofs.Common.{◌≤◌}
use Rattle.role_graph.proofs.InSteps.{StepsBelow}
use Rattle.role_graph.proofs.role_set.are_ascending.Given as goal

abbrev pub invariant-loop-at : goal.invariant-loop-at
invariant-loop-at l = (1 ≤ l.at) × StepsBelow l.roles l.at
