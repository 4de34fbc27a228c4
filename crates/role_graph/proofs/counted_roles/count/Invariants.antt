use Rattle.std.proofs.Common.{◌≡◌, ◌+◌}
use Rattle.role_graph.proofs.counted_roles.count.Given as goal

abbrev pub invariant-loop-edge : goal.invariant-loop-edge
invariant-loop-edge l = l.steps ≡ l.initial.steps + l._edge
