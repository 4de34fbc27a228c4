use Rattle.std.proofs.Common.{◌≡◌, ◌+◌, ◌≤◌, ◌++◌, All, drop, length}
use Rattle.chacha_seal.specs.Serials.{serial_of}
use Rattle.record_format.specs.Spellable.{IsLink}
use Rattle.journal_bytes.specs.Ringing.{links_by}
use Rattle.store_owner.proofs.records.put_links.Given as goal

abbrev pub invariant-loop-head : goal.invariant-loop-head
invariant-loop-head l = record {
  epoch : l.counter.epoch ≡ l.initial.counter.epoch;
  count : l.counter.count ≡ l.initial.counter.count + l.head-index;
  room : length l.heads ≤ l.links.spare + l.head-index;
  spelled : All IsLink l.links.items;
  so_far : l.links.items ++ links_by l.ring (serial_of l.counter.epoch l.counter.count) (drop l.head-index l.heads)
      ≡ l.initial.links.items ++ links_by l.ring (serial_of l.initial.counter.epoch l.initial.counter.count) l.heads;
}
