-- HMAC (RFC 2104) with SHA-256 (FIPS 180-4). Keys, messages and digests are lists of bytes.
use Rattle.std.specs.Prelude.{ℕ, ◌-◌, List, ◌++◌, length, map, replicate, bit_xor, nat_le, if◌then◌else◌}
use Rattle.sha2.specs.Sha256.{sha256}

-- the bytes of SHA-256's block
abbrev pub block_len : ℕ
block_len = 64

-- the key, or its hash where it is longer than a block
abbrev pub short_key : List ℕ → List ℕ
short_key key = if nat_le (length key) block_len then key else sha256 key

-- the short key with zero bytes behind it, up to a block
unfoldable pub block_key : List ℕ → List ℕ
block_key key = short_key key ++ replicate (block_len - length (short_key key)) 0

-- each byte of a block xored with one byte: at 0x36 the block xor ipad, at 0x5c the block xor opad
abbrev pub xor_each : ℕ → List ℕ → List ℕ
xor_each pad block = map (λ byte. bit_xor byte pad) block

-- the HMAC of a message under a key
unfoldable pub hmac : List ℕ → List ℕ → List ℕ
hmac key message =
    sha256 (xor_each 0x5c (block_key key) ++ sha256 (xor_each 0x36 (block_key key) ++ message))
