use Rattle.std.proofs.Common.{◌≡◌, ◌-◌}
use Rattle.record_format.specs.Fields.{repeat_at}
use Rattle.record_format.specs.Reading.{link_at}
use Rattle.record_format.proofs.Repeats.{with_front}
use Rattle.record_format.proofs.reading.links_of.Given as goal

abbrev pub invariant-loop : goal.invariant-loop
invariant-loop l = with_front l.links.items (repeat_at link_at (l.count - l.counter) l.rest) ≡ repeat_at link_at l.count l.bytes
