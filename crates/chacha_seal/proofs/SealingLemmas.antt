-- What the crates above need to know of sealing: lengths, and that sealing and masking undo themselves.
use Rattle.std.proofs.Common.{◌≡◌, ℕ, List, length, ap, sym, ◌∙◌}
use Rattle.hmac_seal.proofs.HmacLemmas.{length-hmac}
use Rattle.chacha_seal.specs.Sealing.{check_of, cipher_key, masked, owner_tag_key, seal_tag, sealed, tag_key, veil_of}
use Rattle.chacha_seal.proofs.StreamLemmas.{length-xor_stream, xor_stream-xor_stream}

-- what is sealed twice under one key and nonce is the text
pub sealed-sealed : (key : List ℕ) (nonce : ℕ) (text : List ℕ)
    → sealed key nonce (sealed key nonce text) ≡ text
unfolding sealed
sealed-sealed key nonce text = xor_stream-xor_stream (cipher_key key) nonce text

-- what is masked twice under one veil is the payload
pub masked-masked : (veil payload : List ℕ) → masked veil (masked veil payload) ≡ payload
unfolding masked
masked-masked veil payload = xor_stream-xor_stream veil 0 payload

-- two texts with one cipher under one key and nonce are one text
pub same_from_sealed : (key : List ℕ) (nonce : ℕ) (text other : List ℕ)
    → sealed key nonce text ≡ sealed key nonce other → text ≡ other
same_from_sealed key nonce text other same =
    sym (sealed-sealed key nonce text) ∙ (ap (sealed key nonce) same ∙ sealed-sealed key nonce other)

-- two payloads with one masked form under one veil are one payload
pub same_from_masked : (veil payload other : List ℕ)
    → masked veil payload ≡ masked veil other → payload ≡ other
same_from_masked veil payload other same =
    sym (masked-masked veil payload) ∙ (ap (masked veil) same ∙ masked-masked veil other)

pub length-sealed : (key : List ℕ) (nonce : ℕ) (text : List ℕ)
    → length (sealed key nonce text) ≡ length text
unfolding sealed
length-sealed key nonce text = length-xor_stream (cipher_key key) nonce text

pub length-masked : (veil payload : List ℕ) → length (masked veil payload) ≡ length payload
unfolding masked
length-masked veil payload = length-xor_stream veil 0 payload

pub length-seal_tag : (key header cipher : List ℕ) → length (seal_tag key header cipher) ≡ 32
unfolding seal_tag
length-seal_tag key header cipher = length-hmac _ _

pub length-cipher_key : (key : List ℕ) → length (cipher_key key) ≡ 32
unfolding cipher_key
length-cipher_key key = length-hmac _ _

pub length-tag_key : (key : List ℕ) → length (tag_key key) ≡ 32
unfolding tag_key
length-tag_key key = length-hmac _ _

pub length-veil_of : (owner : List ℕ) (epoch number : ℕ) → length (veil_of owner epoch number) ≡ 32
unfolding veil_of
length-veil_of owner epoch number = length-hmac _ _

pub length-check_of : (key : List ℕ) → length (check_of key) ≡ 32
unfolding check_of
length-check_of key = length-hmac _ _

pub length-owner_tag_key : (owner : List ℕ) → length (owner_tag_key owner) ≡ 32
unfolding owner_tag_key
length-owner_tag_key owner = length-hmac _ _
