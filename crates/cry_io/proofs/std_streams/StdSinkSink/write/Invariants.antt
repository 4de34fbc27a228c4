use Rattle.std.proofs.Common.{◌≡◌}
use Rattle.cry_io.proofs.std_streams.StdSinkSink.write.Given as goal

abbrev pub invariant-loop : goal.invariant-loop
invariant-loop g l = l.self-inside.faults.count ≡ l.initial.self-inside.faults.count
