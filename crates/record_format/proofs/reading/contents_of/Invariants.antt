use Rattle.std.proofs.Common.{◌≡◌, ◌-◌, map}
use Rattle.record_format.specs.Fields.{repeat_at}
use Rattle.record_format.specs.Plain.{plain_content}
use Rattle.record_format.specs.Reading.{content_at}
use Rattle.record_format.proofs.Repeats.{with_front}
use Rattle.record_format.proofs.reading.contents_of.Given as goal

abbrev pub invariant-loop : goal.invariant-loop
invariant-loop l = with_front (map plain_content l.contents.items) (repeat_at content_at (l.count - l.counter) l.rest) ≡ repeat_at content_at l.count l.bytes
