use Rattle.std.proofs.Common.{◌≡◌, ◌-◌}
use Rattle.record_format.specs.Fields.{repeat_at}
use Rattle.record_format.proofs.Repeats.{with_front}
use Rattle.index_format.proofs.reading.values_of.Given as goal

abbrev pub invariant-loop : goal.invariant-loop
invariant-loop g l = with_front l.values.items (repeat_at g.T.Fixed.value_at (l.count - l.counter) l.rest) ≡ repeat_at g.T.Fixed.value_at l.count l.bytes
