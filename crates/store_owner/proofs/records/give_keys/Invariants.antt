use Rattle.std.proofs.Common.{◌≡◌, ◌+◌, ◌≤◌, drop, length}
use Rattle.chacha_seal.specs.Serials.{serial_of}
use Rattle.cry_base.specs.declared.roles.Role.{Role}
use Rattle.key_links.specs.Ringed.{key_of}
use Rattle.journal_bytes.specs.Ringing.{key_after}
use Rattle.store_owner.proofs.records.give_keys.Given as goal

abbrev pub invariant-loop-i : goal.invariant-loop-i
invariant-loop-i l = record {
  epoch : l.counter.epoch ≡ l.initial.counter.epoch;
  count : l.counter.count ≡ l.initial.counter.count + l.i;
  room : length l.heads ≤ l.ring.spare + l.i;
  so_far : (r : Role) → key_after (key_of l.ring r) (serial_of l.counter.epoch l.counter.count) (drop l.i l.heads) (drop l.i l.drawn) r
      ≡ key_after (key_of l.initial.ring r) (serial_of l.initial.counter.epoch l.initial.counter.count) l.heads l.drawn r;
}
