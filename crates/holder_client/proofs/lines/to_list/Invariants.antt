use Rattle.std.proofs.Common.{◌≡◌}
use Rattle.holder_client.proofs.lines.to_list.Given as goal

abbrev pub invariant-loop-line : goal.invariant-loop-line
invariant-loop-line l = l.list.items ≡ l.yielded
