-- The stream of ChaCha20: the block function of RFC 8439, in the layout with a 64-bit counter of
-- blocks and a 64-bit number of the stream.
use Rattle.std.specs.Prelude.{ℕ, ◌+◌, ◌/◌, ◌%◌, List, [], ◌∷◌, ◌++◌, take, drop, bit_xor, slice_index}
use Rattle.std.specs.Int.{w32, to_le_bytes}
use Rattle.rand_chacha.specs.ChaCha.{key_of, word_at}

-- the four bytes, the lowest first, of the word that has byte i of the stream of a 32-byte key and a number
abbrev pub word_for : List ℕ → ℕ → ℕ → List ℕ
word_for key number i = to_le_bytes w32 (word_at 10 (key_of key) number (i / 4))

-- byte i of that stream
unfoldable pub stream_byte : List ℕ → ℕ → ℕ → ℕ
stream_byte key number i = slice_index (word_for key number i) (i % 4)

-- each byte xored with the byte of the stream at its place, where the first byte has place i
unfoldable pub xor_from : List ℕ → ℕ → ℕ → List ℕ → List ℕ
xor_from key number i [] = []
xor_from key number i (byte ∷ rest) =
    bit_xor byte (stream_byte key number i) ∷ xor_from key number (i + 1) rest

-- a text xored with the stream from its beginning
unfoldable pub xor_stream : List ℕ → ℕ → List ℕ → List ℕ
xor_stream key number text = xor_from key number 0 text

-- a text whose first i bytes are xored with the stream, while the others are as they were
abbrev pub laid : List ℕ → ℕ → ℕ → List ℕ → List ℕ
laid key number i text = xor_from key number 0 (take i text) ++ drop i text
