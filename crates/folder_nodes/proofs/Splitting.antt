-- The first of the pieces between slashes.
use Rattle.std.proofs.Common.{◌≡◌, ℕ, suc, ◌+◌, ◌<◌, ◌≤◌, Bool, true, false, cond, not, ◌==◌, List, [], ◌∷◌, length, take, drop, Some, None, refl, ap, subst, arith}
use Rattle.std.specs.Prelude.{nat_lt}
use Rattle.std.specs.List.{position_or_len, position}
use Rattle.std.proofs.lemmas.Bool.{ltb-true, ltb-false}
use Rattle.cry_base.specs.Naming.{split_at_slashes, onto_first}

abbrev slash : ℕ → Bool
slash b = b == 47

abbrev none_before : List ℕ → ℕ
none_before xs = position_or_len slash xs

split_there : (xs : List ℕ) (n : ℕ) → none_before xs ≡ n → n < length xs → split_at_slashes xs ≡ take n xs ∷ split_at_slashes (drop (suc n) xs)
unfolding split_at_slashes onto_first
split_there [] n e h = absurd (omega arith)
split_there (b ∷ xs) n e h =
    (elim (b == 47) as (λ t. cond (not t) (1 + none_before xs) 0 ≡ n → cond t ([] ∷ split_at_slashes xs) (onto_first b (split_at_slashes xs)) ≡ take n (b ∷ xs) ∷ split_at_slashes (drop (suc n) (b ∷ xs))) [
      | true ↦ λ z. let P : ℕ → Type 0 = λ k. [] ∷ split_at_slashes xs ≡ take k (b ∷ xs) ∷ split_at_slashes (drop (suc k) (b ∷ xs)) in subst P z refl
      | false ↦ λ z.
          let at : suc (none_before xs) ≡ n = omega (arith, z) in
          let lt : none_before xs < length xs = omega (arith, h, at) in
          let P : ℕ → Type 0 = λ k. onto_first b (split_at_slashes xs) ≡ take k (b ∷ xs) ∷ split_at_slashes (drop (suc k) (b ∷ xs)) in
          subst P at (ap (onto_first b) (split_there xs (none_before xs) refl lt))
    ]) e

split_nowhere : (xs : List ℕ) → length xs ≤ none_before xs → split_at_slashes xs ≡ xs ∷ []
unfolding split_at_slashes onto_first
split_nowhere [] h = refl
split_nowhere (b ∷ xs) h =
    (elim (b == 47) as (λ t. length (b ∷ xs) ≤ cond (not t) (1 + none_before xs) 0 → cond t ([] ∷ split_at_slashes xs) (onto_first b (split_at_slashes xs)) ≡ (b ∷ xs) ∷ []) [
      | true ↦ λ z. absurd (omega (arith, z))
      | false ↦ λ z. let le : length xs ≤ none_before xs = omega (arith, z) in ap (onto_first b) (split_nowhere xs le)
    ]) h

pub split_found : (xs : List ℕ) (n : ℕ) → Some n ≡ position slash xs → split_at_slashes xs ≡ take n xs ∷ split_at_slashes (drop (suc n) xs)
split_found xs n e =
    (elim (nat_lt (none_before xs) (length xs)) as (λ t. nat_lt (none_before xs) (length xs) ≡ t → Some n ≡ cond t (Some (none_before xs)) None → split_at_slashes xs ≡ take n xs ∷ split_at_slashes (drop (suc n) xs)) [
      | true ↦ λ z w. let same : none_before xs ≡ n = cc in let lt : n < length xs = subst (λ k. k < length xs) same (ltb-true (none_before xs) (length xs) z) in split_there xs n same lt
      | false ↦ λ z w. absurd (cc)
    ]) refl e

pub split_not_found : (xs : List ℕ) → None ≡ position slash xs → split_at_slashes xs ≡ xs ∷ []
split_not_found xs e =
    (elim (nat_lt (none_before xs) (length xs)) as (λ t. nat_lt (none_before xs) (length xs) ≡ t → None ≡ cond t (Some (none_before xs)) None → split_at_slashes xs ≡ xs ∷ []) [
      | true ↦ λ z w. absurd (cc)
      | false ↦ λ z w. split_nowhere xs (ltb-false (none_before xs) (length xs) z)
    ]) refl e
