use Rattle.std.proofs.Common.{take}
use Rattle.holder_client.specs.Filed.{HasClearances}
use Rattle.holder_client.proofs.reading.clearances_of.Given as goal

abbrev pub invariant-loop-entry : goal.invariant-loop-entry
invariant-loop-entry l = HasClearances l.clearances (take l.entry-index l.entries)
