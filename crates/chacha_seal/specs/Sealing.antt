-- This project's own, docs/FORMAT.md: what is done with a key of 32 bytes, by HMAC (RFC 2104) and by
-- the stream of ChaCha20.
use Rattle.std.specs.Prelude.{ℕ, List, [], ◌∷◌, ◌++◌}
use Rattle.std.specs.Int.{w32, to_be_bytes}
use Rattle.hmac_seal.specs.Hmac.{hmac}
use Rattle.chacha_seal.specs.Stream.{xor_stream}

-- the key of the stream that a key seals with
unfoldable pub cipher_key : List ℕ → List ℕ
cipher_key key = hmac key (1 ∷ [])

-- the key of the tags that a key makes
unfoldable pub tag_key : List ℕ → List ℕ
tag_key key = hmac key (2 ∷ [])

-- the veil key of a batch, by the owner's key, the epoch and the batch's number
unfoldable pub veil_of : List ℕ → ℕ → ℕ → List ℕ
veil_of owner epoch number = hmac owner (3 ∷ to_be_bytes w32 epoch ++ to_be_bytes w32 number)

-- what is published of an owner's or a holder's key, to tell a wrong one by
unfoldable pub check_of : List ℕ → List ℕ
check_of key = hmac key (4 ∷ [])

-- the key of the tags that chain the batches, by the owner's key
unfoldable pub owner_tag_key : List ℕ → List ℕ
owner_tag_key owner = hmac owner (5 ∷ [])

-- the cipher bytes of a text
unfoldable pub sealed : List ℕ → ℕ → List ℕ → List ℕ
sealed key nonce text = xor_stream (cipher_key key) nonce text

-- the tag of a header and the cipher bytes behind it
unfoldable pub seal_tag : List ℕ → List ℕ → List ℕ → List ℕ
seal_tag key header cipher = hmac (tag_key key) (header ++ cipher)

-- a payload under a veil key
unfoldable pub masked : List ℕ → List ℕ → List ℕ
masked veil payload = xor_stream veil 0 payload
