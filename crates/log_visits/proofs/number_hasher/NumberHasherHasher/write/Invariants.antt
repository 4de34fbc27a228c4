use Rattle.std.proofs.Common.{◌≡◌, take, fold}
use Rattle.log_visits.specs.Hashing.{with_byte}
use Rattle.log_visits.proofs.number_hasher.NumberHasherHasher.write.Given as goal

abbrev pub invariant-loop-byte : goal.invariant-loop-byte
invariant-loop-byte l = l.self.last ≡ fold with_byte l.initial.self.last (take l.byte-index l.bytes)
