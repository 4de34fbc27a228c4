-- Test vectors of RFC 8439, appendix A.1, computed from the definition: a wrong key, number, place or
-- order of bytes does not check. The stream over zero bytes is the stream itself.
use Rattle.std.proofs.Common.{◌≡◌, [], ◌∷◌, replicate, refl}
use Rattle.rand_core.specs.Steps.{u32_at}
use Rattle.rand_chacha.specs.Block.{block_word, column_round, diagonal_round, double_rounds, quarter_round}
use Rattle.chacha_seal.specs.Stream.{stream_byte, xor_from, xor_stream}

-- vector 1, the first half: the zero key, number 0
xor_stream-first_block : xor_stream (replicate 32 0) 0 (replicate 32 0) ≡
    0x76 ∷ 0xb8 ∷ 0xe0 ∷ 0xad ∷ 0xa0 ∷ 0xf1 ∷ 0x3d ∷ 0x90 ∷ 0x40 ∷ 0x5d ∷ 0x6a ∷ 0xe5 ∷ 0x53 ∷
    0x86 ∷ 0xbd ∷ 0x28 ∷ 0xbd ∷ 0xd2 ∷ 0x19 ∷ 0xb8 ∷ 0xa0 ∷ 0x8d ∷ 0xed ∷ 0x1a ∷ 0xa8 ∷ 0x36 ∷
    0xef ∷ 0xcc ∷ 0x8b ∷ 0x77 ∷ 0x0d ∷ 0xc7 ∷ []
unfolding u32_at quarter_round column_round diagonal_round double_rounds block_word
    stream_byte xor_from xor_stream
xor_stream-first_block = refl

-- vector 2, the first half: the second block of that stream
xor_from-second_block : xor_from (replicate 32 0) 0 64 (replicate 32 0) ≡
    0x9f ∷ 0x07 ∷ 0xe7 ∷ 0xbe ∷ 0x55 ∷ 0x51 ∷ 0x38 ∷ 0x7a ∷ 0x98 ∷ 0xba ∷ 0x97 ∷ 0x7c ∷ 0x73 ∷
    0x2d ∷ 0x08 ∷ 0x0d ∷ 0xcb ∷ 0x0f ∷ 0x29 ∷ 0xa0 ∷ 0x48 ∷ 0xe3 ∷ 0x65 ∷ 0x69 ∷ 0x12 ∷ 0xc6 ∷
    0x53 ∷ 0x3e ∷ 0x32 ∷ 0xee ∷ 0x7a ∷ 0xed ∷ []
unfolding u32_at quarter_round column_round diagonal_round double_rounds block_word
    stream_byte xor_from
xor_from-second_block = refl

-- vector 5, the first half: the nonce that ends in 2, which is the number 2 ^ 57
xor_stream-number : xor_stream (replicate 32 0) 0x0200000000000000 (replicate 32 0) ≡
    0xc2 ∷ 0xc6 ∷ 0x4d ∷ 0x37 ∷ 0x8c ∷ 0xd5 ∷ 0x36 ∷ 0x37 ∷ 0x4a ∷ 0xe2 ∷ 0x04 ∷ 0xb9 ∷ 0xef ∷
    0x93 ∷ 0x3f ∷ 0xcd ∷ 0x1a ∷ 0x8b ∷ 0x22 ∷ 0x88 ∷ 0xb3 ∷ 0xdf ∷ 0xa4 ∷ 0x96 ∷ 0x72 ∷ 0xab ∷
    0x76 ∷ 0x5b ∷ 0x54 ∷ 0xee ∷ 0x27 ∷ 0xc7 ∷ []
unfolding u32_at quarter_round column_round diagonal_round double_rounds block_word
    stream_byte xor_from xor_stream
xor_stream-number = refl
