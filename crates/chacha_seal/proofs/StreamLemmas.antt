-- The stream laid over a text: byte by byte, and twice.
use Rattle.std.proofs.Common.{◌≡◌, ℕ, zero, suc, ◌+◌, ◌<◌, List, [], ◌∷◌, ◌++◌, length, take, drop, get_or, set, bit_xor, add-one, arith, refl, ap, ◌∙◌}
use Rattle.std.specs.Int.Bits.{xor_self, xor_zero_r}
use Rattle.std.proofs.lemmas.Grind.{common_steps}
use Rattle.std.proofs.lemmas.List.{length-take-le}
use lib.Bits.{xor_assoc}
use Rattle.chacha_seal.specs.Stream.{stream_byte, xor_from, xor_stream}

pub length-xor_from : (key : List ℕ) (number i : ℕ) (text : List ℕ)
    → length (xor_from key number i text) ≡ length text
unfolding xor_from
length-xor_from key number i [] = refl
length-xor_from key number i (byte ∷ rest) = grind (arith, length-xor_from key number (i + 1) rest)

-- a text laid over with one stream twice is the text
xor_from-xor_from : (key : List ℕ) (number i : ℕ) (text : List ℕ)
    → xor_from key number i (xor_from key number i text) ≡ text
unfolding xor_from
xor_from-xor_from key number i [] = refl
xor_from-xor_from key number i (byte ∷ rest) =
    rw (xor_assoc, xor_self, xor_zero_r, xor_from-xor_from key number (i + 1) rest) refl

pub xor_stream-xor_stream : (key : List ℕ) (number : ℕ) (text : List ℕ)
    → xor_stream key number (xor_stream key number text) ≡ text
unfolding xor_stream
xor_stream-xor_stream key number text = xor_from-xor_from key number 0 text

pub length-xor_stream : (key : List ℕ) (number : ℕ) (text : List ℕ)
    → length (xor_stream key number text) ≡ length text
unfolding xor_stream
length-xor_stream key number text = length-xor_from key number 0 text

-- one byte more: the byte at place i of the text is laid over with the byte of the stream at its place
lay_next : (key : List ℕ) (number from at i : ℕ) (text : List ℕ) → i < length text → at ≡ from + i
    → set (xor_from key number from (take i text) ++ drop i text) i
    (bit_xor (get_or text i 0) (stream_byte key number at))
    ≡ xor_from key number from (take (suc i) text) ++ drop (suc i) text
unfolding xor_from
lay_next key number from at i [] below place = absurd (omega arith)
lay_next key number from at zero (byte ∷ rest) below place =
    let here : at ≡ from = omega arith in ap (λ a. bit_xor byte (stream_byte key number a) ∷ rest) here
lay_next key number from at (suc i) (byte ∷ rest) below place =
    ap (λ xs. bit_xor byte (stream_byte key number from) ∷ xs)
    (lay_next key number (from + 1) at i rest (omega arith) (omega arith))

-- the byte at place i is as it was
laid-rest : (key : List ℕ) (number i : ℕ) (text : List ℕ) → i < length text
    → get_or (xor_from key number 0 (take i text) ++ drop i text) i 0 ≡ get_or text i 0
laid-rest key number i text below =
    let long : length (xor_from key number 0 (take i text)) ≡ i
    = length-xor_from key number 0 (take i text) ∙ length-take-le i text (omega arith) in
    grind (arith, common_steps)

pub lay_more : (key : List ℕ) (number i : ℕ) (before now : List ℕ) → i < length before
    → now ≡ xor_from key number 0 (take i before) ++ drop i before
    → set now i (bit_xor (get_or now i 0) (stream_byte key number i))
    ≡ xor_from key number 0 (take (i + 1) before) ++ drop (i + 1) before
lay_more key number i before now below done =
    rw (done, laid-rest key number i before below, add-one)
    (lay_next key number 0 i i before below (omega arith))
