use Rattle.std.proofs.Common.{◌≡◌, ◌*◌, length}
use Rattle.store_owner.proofs.key_room.zeros.Given as goal

abbrev pub invariant-loop : goal.invariant-loop
invariant-loop l = length l.bytes.items ≡ 32 * l.counter
