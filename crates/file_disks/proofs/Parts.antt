-- Parts of bytes that are known.
use Rattle.std.proofs.Common.{◌≡◌, ℕ, zero, suc, ◌+◌, ◌-◌, ◌≤◌, List, [], ◌∷◌, ◌++◌, length, take, drop, refl, ap, sym, ◌∙◌, arith}
use Rattle.std.proofs.lemmas.Grind.{common_steps}
use Rattle.std.proofs.lemmas.Slice.{between_is}
use Rattle.std.specs.List.{slice_range}

pub take_take : (b n : ℕ) (xs : List ℕ) → b ≤ n → take b (take n xs) ≡ take b xs
take_take zero n xs le = refl
take_take (suc b) zero xs le = absurd (omega (arith, le))
take_take (suc b) (suc n) [] le = refl
take_take (suc b) (suc n) (x ∷ xs) le = ap (λ l. x ∷ l) (take_take b n xs (omega (arith, le)))

drop_none : (a : ℕ) → drop {A = ℕ} a [] ≡ []
drop_none zero = refl
drop_none (suc a) = refl

drop_drop : (a p : ℕ) (xs : List ℕ) → drop a (drop p xs) ≡ drop (p + a) xs
drop_drop a zero xs = let e : a ≡ 0 + a = omega arith in ap (λ n. drop n xs) e
drop_drop a (suc p) [] = drop_none a ∙ sym (drop_none (suc p + a))
drop_drop a (suc p) (x ∷ xs) = let e : suc (p + a) ≡ suc p + a = omega arith in drop_drop a p xs ∙ ap (λ n. drop n (x ∷ xs)) e

-- a part of bytes that are those from p on is the part of all
pub part_known : (items s : List ℕ) (p n a b : ℕ) → take n items ≡ slice_range s p (p + n) → a ≤ b → b ≤ n
    → slice_range items a b ≡ slice_range s (p + a) (p + b)
part_known items s p n a b known ab bn =
    let width : p + n - p ≡ n = omega arith in
    let same : b - a ≡ p + b - (p + a) = omega (arith, ab) in
    let here : take b items ≡ take b (drop p s) = sym (take_take b n items bn) ∙ ap (take b) (known ∙ ap (λ w. take w (drop p s)) width) ∙ take_take b n (drop p s) bn in
    between_is items a b ∙ ap (drop a) here ∙ sym (between_is (drop p s) a b)
    ∙ ap (take (b - a)) (drop_drop a p s) ∙ ap (λ w. take w (drop (p + a) s)) same

-- what was read first in a buffer
pub read_first : (given rest s : List ℕ) (p n : ℕ) → length given ≡ n → given ≡ slice_range s p (p + n) → take n (given ++ rest) ≡ slice_range s p (p + n)
read_first given rest s p n long is = grind (arith, common_steps, long) ∙ is

-- the same, where the buffer is cut to the size that it has
pub read_whole : (given rest s : List ℕ) (size p m n : ℕ) → length given ≡ n → n ≤ size → m ≡ n → given ≡ slice_range s p (p + m)
    → take n (take size (given ++ rest)) ≡ slice_range s p (p + n)
read_whole given rest s size p m n long fits same is =
    take_take n size (given ++ rest) fits ∙ read_first given rest s p n long (is ∙ ap (λ w. slice_range s p (p + w)) same)

-- the same, for a range that is told by its place among all
pub range_known : (items now s : List ℕ) (p n place len : ℕ) → now ≡ items → take n items ≡ slice_range s p (p + n) → p ≤ place → place + len ≤ p + n
    → slice_range now (place - p) (place - p + len) ≡ slice_range s place (place + len)
range_known items now s p n place len same known above below =
    let start : p + (place - p) ≡ place = omega (arith, above) in
    let end : p + (place - p + len) ≡ place + len = omega (arith, above) in
    ap (λ l. slice_range l (place - p) (place - p + len)) same
    ∙ part_known items s p n (place - p) (place - p + len) known (omega arith) (omega (arith, above, below))
    ∙ ap (λ i. slice_range s i (p + (place - p + len))) start ∙ ap (λ j. slice_range s place j) end
