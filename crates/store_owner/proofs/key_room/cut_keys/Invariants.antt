use Rattle.std.proofs.Common.{◌≡◌, ◌+◌, ◌*◌, ◌≤◌, length, take}
use Rattle.store_owner.specs.Drawing.{AreKeys, joined}
use Rattle.store_owner.proofs.key_room.cut_keys.Given as goal

abbrev pub invariant-loop-i : goal.invariant-loop-i
invariant-loop-i l = record {
  counted : length l.drawn.items ≡ l.i;
  room : l.keys ≤ l.i + l.drawn.spare;
  sizes : AreKeys l.drawn.items;
  bytes : joined l.drawn.items ≡ take (32 * l.i) l.bytes;
}
