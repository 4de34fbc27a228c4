use Rattle.std.proofs.Common.{refl}
use Rattle.chacha_seal.specs.Sealing.{sealed}
use Rattle.chacha_seal.proofs.StreamLemmas.{xor_stream-xor_stream}
use Rattle.chacha_seal.proofs.opening.open_with.Goals as goal

pub returns-clause-inverse : goal.returns-clause-inverse
unfolding sealed
returns-clause-inverse c = λ plain was_sealed.
    rw (c.xor_stream.ensures, was_sealed, c.cipher.ensures, xor_stream-xor_stream) refl
