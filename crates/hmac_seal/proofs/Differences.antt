-- Bytes that agree are those whose differing bits, all put together, are none.
use Rattle.std.proofs.Common.{◌≡◌, ℕ, ◌+◌, ◌<◌, ◌↔◌, List, [], ◌∷◌, ◌++◌, length, take, get_or, bit_or, bit_xor, arith, refl}
use Rattle.std.proofs.lemmas.Nat.{le_or_l, le_or_r, and_le_l, and_le_r}
use Rattle.std.specs.Int.Bits.{xor_self}
use Rattle.std.proofs.lemmas.Grind.{take_at_read}
use Rattle.std.proofs.lemmas.List.{same_from_push}
use lib.Bits.{xor_add_and}

-- no bit is left: there was none before, and the two bytes are one
none_from_or : (bits x y : ℕ) → bit_or bits (bit_xor x y) ≡ 0 → (bits ≡ 0) × (x ≡ y)
none_from_or bits x y none =
    let left = le_or_l bits (bit_xor x y) in
    let right = le_or_r bits (bit_xor x y) in
    let halves = xor_add_and x y in
    (omega arith, omega (arith, and_le_l x y, and_le_r x y))

none_or_same : (bits x y : ℕ) → bits ≡ 0 → x ≡ y → bit_or bits (bit_xor x y) ≡ 0
none_or_same bits x y none same = rw (none, same, xor_self) refl

-- what holds of the bytes before place i holds of one byte more
pub agree_more : (bits i : ℕ) (a b : List ℕ) → i < length a → i < length b
    → (bits ≡ 0) ↔ (take i a ≡ take i b)
    → (bit_or bits (bit_xor (get_or a i 0) (get_or b i 0)) ≡ 0) ↔ (take (i + 1) a ≡ take (i + 1) b)
agree_more bits i a b in_a in_b so_far =
    let more_a = (take_at_read a i 0 in_a).1 in
    let more_b = (take_at_read b i 0 in_b).1 in
    let x = get_or a i 0 in
    let y = get_or b i 0 in
    let back : take i a ++ x ∷ [] ≡ take i b ++ y ∷ [] → bit_or bits (bit_xor x y) ≡ 0
    = λ same. let parts = same_from_push _ _ _ _ same in none_or_same _ _ _ (so_far.1 parts.0) parts.1 in
    rw (more_a, more_b) (
      λ none. let parts : (bits ≡ 0) × (x ≡ y) = none_from_or _ _ _ none in
          cc (so_far.0 parts.0, parts.1),
      back,
    )
