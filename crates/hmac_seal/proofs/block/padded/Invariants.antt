use Rattle.std.proofs.Common.{◌≡◌, ◌++◌, take, drop}
use Rattle.hmac_seal.specs.Hmac.{xor_each}
use Rattle.hmac_seal.proofs.block.padded.Given as goal

abbrev pub invariant-loop-byte : goal.invariant-loop-byte
invariant-loop-byte l =
    l.byte-items ≡ xor_each l.pad (take l.byte-index l.fn.block) ++ drop l.byte-index l.fn.block
