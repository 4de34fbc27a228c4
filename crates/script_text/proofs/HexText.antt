-- Bytes as digits in lower case: in pieces, and as the crate `hex` spells them.
use Rattle.std.proofs.Common.{◌≡◌, ℕ, zero, suc, ◌+◌, ◌*◌, ◌/◌, ◌%◌, ◌<◌, ◌==◌, Bool, true, ◌&&◌, inl, inr, List, [], ◌∷◌, ◌++◌, length, take, get_or, slice_index, refl, ap, ◌∙◌, arith}
use Rattle.std.proofs.lemmas.Bool.{and_parts, cases_lt, eqb-true}
use Rattle.std.proofs.lemmas.List.{take_more}
use Rattle.hex.specs.Hex.{encode_with, encode_lower, lower_digits, IsBytes}
use Rattle.cry_base.specs.Texts.{hex_digit, hex_of}

pub hex_of-append : (xs ys : List ℕ) → hex_of (xs ++ ys) ≡ hex_of xs ++ hex_of ys
unfolding hex_of
hex_of-append [] ys = refl
hex_of-append (x ∷ xs) ys = ap (λ (r : List ℕ). hex_digit (x / 16) ∷ hex_digit (x % 16) ∷ r) (hex_of-append xs ys)

-- two digits for each byte
pub length-hex_of : (xs : List ℕ) → length (hex_of xs) ≡ 2 * length xs
unfolding hex_of
length-hex_of [] = refl
length-hex_of (x ∷ xs) = let e = length-hex_of xs in omega (arith, e)

-- whether the first n digits are the table's
same_digits : ℕ → Bool
same_digits zero = true
same_digits (suc n) = (slice_index lower_digits n == hex_digit n) && same_digits n

digit_below : (n d : ℕ) → same_digits n ≡ true → d < n → slice_index lower_digits d ≡ hex_digit d
unfolding same_digits
digit_below zero d same below = absurd (omega arith)
digit_below (suc n) d same below =
    let parts = and_parts (slice_index lower_digits n == hex_digit n) (same_digits n) same in
    elim (cases_lt d n) [
      | inl lower ↦ digit_below n d parts.1 lower
      | inr top ↦
          let last : d ≡ n = omega arith in
          rw last (eqb-true (slice_index lower_digits n) (hex_digit n) parts.0)
    ]

-- each digit is the table's
digit_is : (d : ℕ) → d < 16 → slice_index lower_digits d ≡ hex_digit d
unfolding same_digits hex_digit
digit_is d fits = digit_below 16 d refl fits

-- the crate `hex` spells the same digits
pub hex_of_is : (xs : List ℕ) → IsBytes xs → encode_lower xs ≡ hex_of xs
unfolding encode_with hex_of
hex_of_is [] fits = refl
hex_of_is (x ∷ xs) fits =
    let byte : x < 256 = fits 0 in
    let high : slice_index lower_digits (x / 16) ≡ hex_digit (x / 16) = digit_is (x / 16) (omega arith) in
    let low : slice_index lower_digits (x % 16) ≡ hex_digit (x % 16) = digit_is (x % 16) (omega arith) in
    let rest = hex_of_is xs (λ k. fits (suc k)) in
    ap (λ d. d ∷ slice_index lower_digits (x % 16) ∷ encode_lower xs) high
    ∙ ap (λ d. hex_digit (x / 16) ∷ d ∷ encode_lower xs) low
    ∙ ap (λ (r : List ℕ). hex_digit (x / 16) ∷ hex_digit (x % 16) ∷ r) rest

bytes_of_one : (b : ℕ) → b < 256 → IsBytes (b ∷ [])
bytes_of_one b fits zero = fits
bytes_of_one b fits (suc k) = omega arith

-- one byte's digits
pub lower_byte : (b : ℕ) → b < 256 → encode_lower (b ∷ []) ≡ hex_of (b ∷ [])
lower_byte b fits = hex_of_is (b ∷ []) (bytes_of_one b fits)

-- the digits of the first bytes and one more
pub hex_of_more : (xs : List ℕ) (i d : ℕ) → i < length xs → hex_of (take (i + 1) xs) ≡ hex_of (take i xs) ++ hex_of (get_or xs i d ∷ [])
hex_of_more xs i d within = ap hex_of (take_more xs i d within) ∙ hex_of-append (take i xs) (get_or xs i d ∷ [])
