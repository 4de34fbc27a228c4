-- What bytes begin with a state's spelling, and which rows they tell.
use Rattle.std.proofs.Common.{◌≡◌, ℕ, ◌+◌, ◌-◌, ◌≤◌, List, [], ◌∷◌, ◌++◌, length, take, refl, sym, ap, ◌∙◌, subst, arith, length-append}

-- the bytes before what is left are what was read
pub taken_front : (bytes front rest : List ℕ) → bytes ≡ front ++ rest → take (length bytes - length rest) bytes ≡ front
taken_front bytes front rest e =
    let long : length bytes ≡ length front + length rest = ap length e ∙ length-append front rest in
    let used : length bytes - length rest ≡ length front = omega (arith, long) in
    (λ k. take (used k) (e k)) ∙ take_front front rest
  where
    take_front : (front rest : List ℕ) → take (length front) (front ++ rest) ≡ front
    take_front [] rest = refl
    take_front (x ∷ xs) rest = ap (λ l. x ∷ l) (take_front xs rest)

pub used_within : (bytes rest : List ℕ) → length bytes - length rest ≤ length bytes
used_within bytes rest = omega arith
