use Rattle.std.proofs.Common.{refl}
use Rattle.chacha_seal.specs.Sealing.{masked}
use Rattle.chacha_seal.proofs.StreamLemmas.{xor_stream-xor_stream}
use Rattle.chacha_seal.proofs.sealing.mask_in_place.Goals as goal

pub returns-clause-inverse : goal.returns-clause-inverse
unfolding masked
returns-clause-inverse c = λ payload was_masked.
    rw (c.xor_stream.ensures, was_masked, xor_stream-xor_stream) refl
