-- Bytes that are cut out of bytes, or masked, are bytes.
use Rattle.std.proofs.Common.{⊎_elim, inl, inr, ℕ, zero, suc, ◌+◌, ◌<◌, List, [], ◌∷◌, get_or, take, drop, arith, refl, sym, subst}
use Rattle.std.specs.Int.{w32, to_le_bytes}
use Rattle.std.proofs.lemmas.Nat.{xor_of_8}
use Rattle.std.specs.Prelude.{◌/◌, ◌%◌, slice_range}
use Rattle.rand_chacha.specs.ChaCha.{key_of, word_at}
use Rattle.chacha_seal.specs.Sealing.{masked}
use Rattle.chacha_seal.specs.Stream.{stream_byte, xor_from, xor_stream}
use Rattle.cry_base.specs.Sets.{In}
use Rattle.record_format.proofs.FieldLaws.{IsBytes}
use Rattle.forgery_laws.specs.Written.{AreBytes}

pub bytes_by_index : (bytes : List ℕ) → AreBytes bytes → IsBytes bytes
bytes_by_index [] are i = omega arith
bytes_by_index (b ∷ bytes) are zero = are b (inl refl)
bytes_by_index (b ∷ bytes) are (suc i) = bytes_by_index bytes (λ x j. are x (inr j)) i

pub in_drop : (n : ℕ) (xs : List ℕ) (x : ℕ) → In x (drop n xs) → In x xs
in_drop zero xs x i = i
in_drop (suc n) [] x i = i
in_drop (suc n) (y ∷ ys) x i = inr (in_drop n ys x i)

pub in_take : (n : ℕ) (xs : List ℕ) (x : ℕ) → In x (take n xs) → In x xs
in_take zero xs x i = absurd i
in_take (suc n) [] x i = i
in_take (suc n) (y ∷ ys) x i = ⊎_elim (λ e. inl e) (λ t. inr (in_take n ys x t)) i

pub in_range : (xs : List ℕ) (a b : ℕ) (x : ℕ) → In x (slice_range xs a b) → In x xs
in_range xs a b x i = in_drop a xs x (in_take _ (drop a xs) x i)

four_small : (a b c d k : ℕ) → a < 256 → b < 256 → c < 256 → d < 256 → get_or (a ∷ b ∷ c ∷ d ∷ []) k 0 < 256
four_small a b c d zero p q r s = p
four_small a b c d (suc zero) p q r s = q
four_small a b c d (suc (suc zero)) p q r s = r
four_small a b c d (suc (suc (suc zero))) p q r s = s
four_small a b c d (suc (suc (suc (suc k)))) p q r s = omega arith

word_small : (n k : ℕ) → get_or (to_le_bytes w32 n) k 0 < 256
word_small n k = four_small _ _ _ _ k (omega arith) (omega arith) (omega arith) (omega arith)

stream_small : (key : List ℕ) (number i : ℕ) → stream_byte key number i < 256
unfolding stream_byte
stream_small key number i = word_small (word_at 10 (key_of key) number (i / 4)) (i % 4)

xored : (key : List ℕ) (number i : ℕ) (bytes : List ℕ) → AreBytes bytes → AreBytes (xor_from key number i bytes)
unfolding xor_from
xored key number i [] are x j = absurd j
xored key number i (b ∷ bytes) are x j = ⊎_elim
    (λ e. subst (λ z. z < 256) (sym e) (xor_of_8 b (stream_byte key number i) (are b (inl refl)) (stream_small key number i)))
    (λ t. xored key number (i + 1) bytes (λ y u. are y (inr u)) x t)
    j

pub masked_are : (veil bytes : List ℕ) → AreBytes bytes → AreBytes (masked veil bytes)
unfolding masked xor_stream
masked_are veil bytes are = xored veil 0 0 bytes are
