-- Numbers in ascending order: two such lists of the same numbers are one.
use Rattle.std.proofs.Common.{◌≡◌, ℕ, ◌<◌, Bool, true, false, ◌==◌, ◌⊎◌, ◌↔◌, List, [], ◌∷◌, refl, sym, ap, ◌∙◌, inl, inr, ⊎_elim, arith}
use Rattle.std.specs.Prelude.{nat_lt, if◌then◌else◌}
use Rattle.std.proofs.lemmas.Bool.{eqb-true}
use Rattle.std.proofs.lemmas.Bool.Decides.{nat_tests}
use Rattle.cry_base.specs.Sets.{In}
use Rattle.folder_nodes.proofs.Ascending.{All-in, head_below, rest_rising}
use Rattle.sorted_table.specs.Rows.{IsRising}
use Rattle.group_book.specs.Replacing.{ascending, put_number}

-- each number is below those behind it
abbrev pub Rises : List ℕ → Type 0
Rises [] = Unit {0}
Rises (x ∷ xs) = ((k : ℕ) → In k xs → x < k) × Rises xs

pub rising_rises : (xs : List ℕ) → IsRising (λ n. n) xs → Rises xs
rising_rises [] up = tt
rising_rises (x ∷ xs) up = (
  λ k i. All-in ℕ (λ n. x < n) xs k (head_below ℕ (λ n. n) x xs up) i,
  rising_rises xs (rest_rising ℕ (λ n. n) x xs up),
)

pub one_list : (xs ys : List ℕ) → Rises xs → Rises ys → ((k : ℕ) → In k xs ↔ In k ys) → xs ≡ ys
one_list [] [] up down same = refl
one_list [] (y ∷ ys) up down same = absurd ((same y).1 (inl refl))
one_list (x ∷ xs) [] up down same = absurd ((same x).0 (inl refl))
one_list (x ∷ xs) (y ∷ ys) up down same =
    let one : x ≡ y = heads ((same x).0 (inl refl)) ((same y).1 (inl refl)) in
    ap (λ z. z ∷ xs) one ∙ ap (λ zs. y ∷ zs) (one_list xs ys up.1 down.1 (λ k. (there one k, back one k)))
  where
    heads : (x ≡ y) ⊎ In x ys → (y ≡ x) ⊎ In y xs → x ≡ y
    heads a b = ⊎_elim (λ (e : x ≡ y). e) (λ i. ⊎_elim (λ (e : y ≡ x). sym e) (λ j. absurd (let low : y < x = down.0 x i in let high : x < y = up.0 y j in omega (arith, low, high))) b) a

    there : x ≡ y → (k : ℕ) → In k xs → In k ys
    there one k i = ⊎_elim (λ (e : k ≡ y). absurd (let above : x < k = up.0 k i in omega (arith, above, e, one))) (λ j. j) ((same k).0 (inr i))

    back : x ≡ y → (k : ℕ) → In k ys → In k xs
    back one k i = ⊎_elim (λ (e : k ≡ x). absurd (let above : y < k = down.0 k i in omega (arith, above, e, one))) (λ j. j) ((same k).1 (inr i))

-- a number that is put in stands there, and all others as before
pub put_in : (n k : ℕ) (xs : List ℕ) → In k (put_number n xs) ↔ ((k ≡ n) ⊎ In k xs)
unfolding put_number
put_in n k [] = (λ i. i, λ i. i)
put_in n k (x ∷ xs) =
    (elim (n == x) as (λ b. n == x ≡ b → In k (if b then x ∷ xs else (if nat_lt n x then n ∷ x ∷ xs else x ∷ put_number n xs)) ↔ ((k ≡ n) ⊎ In k (x ∷ xs))) [
      | true ↦ λ t. (λ i. inr i, λ i. ⊎_elim (λ (e : k ≡ n). inl (e ∙ eqb-true n x t)) (λ j. j) i)
      | false ↦ λ t. behind (put_in n k xs) (nat_lt n x)
    ]) refl
  where
    behind : In k (put_number n xs) ↔ ((k ≡ n) ⊎ In k xs) → (b : Bool) → In k (if b then n ∷ x ∷ xs else x ∷ put_number n xs) ↔ ((k ≡ n) ⊎ In k (x ∷ xs))
    behind put true = (λ i. i, λ i. i)
    behind put false = (
      λ i. ⊎_elim (λ (e : k ≡ x). inr (inl e)) (λ j. ⊎_elim (λ (e : k ≡ n). inl e) (λ r. inr (inr r)) (put.0 j)) i,
      λ i. ⊎_elim (λ (e : k ≡ n). inr (put.1 (inl e))) (λ j. ⊎_elim (λ (e : k ≡ x). inl e) (λ r. inr (put.1 (inr r))) j) i,
    )

pub put_rises : (n : ℕ) (xs : List ℕ) → Rises xs → Rises (put_number n xs)
unfolding put_number
put_rises n [] up = (λ k i. absurd i, tt)
put_rises n (x ∷ xs) up =
    (elim (n == x) as (λ b. n == x ≡ b → Rises (if b then x ∷ xs else (if nat_lt n x then n ∷ x ∷ xs else x ∷ put_number n xs))) [
      | true ↦ λ t. up
      | false ↦ λ t. behind (put_rises n xs up.1) t (nat_lt n x) refl
    ]) refl
  where
    behind : Rises (put_number n xs) → n == x ≡ false → (b : Bool) → nat_lt n x ≡ b → Rises (if b then n ∷ x ∷ xs else x ∷ put_number n xs)
    behind rest other true t = (
      λ k i. ⊎_elim (λ (e : k ≡ x). grind (arith, nat_tests)) (λ r. let above : x < k = up.0 k r in grind (arith, nat_tests)) i,
      up,
    )
    behind rest other false t = (
      λ k i. ⊎_elim (λ (e : k ≡ n). grind (arith, nat_tests)) (λ r. up.0 k r) ((put_in n k xs).0 i),
      rest,
    )

pub ascending_rises : (ns : List ℕ) → Rises (ascending ns)
unfolding ascending
ascending_rises [] = tt
ascending_rises (n ∷ ns) = put_rises n (ascending ns) (ascending_rises ns)

pub ascending_in : (k : ℕ) (ns : List ℕ) → In k (ascending ns) ↔ In k ns
unfolding ascending
ascending_in k [] = (λ i. i, λ i. i)
ascending_in k (n ∷ ns) = (
  λ i. ⊎_elim (λ (e : k ≡ n). inl e) (λ j. inr ((ascending_in k ns).0 j)) ((put_in n k (ascending ns)).0 i),
  λ i. (put_in n k (ascending ns)).1 (⊎_elim (λ (e : k ≡ n). inl e) (λ j. inr ((ascending_in k ns).1 j)) i),
)

-- a list that ascends is those numbers in ascending order
pub sorted : (xs ns : List ℕ) → Rises xs → ((k : ℕ) → In k xs ↔ In k ns) → xs ≡ ascending ns
sorted xs ns up same = one_list xs (ascending ns) up (ascending_rises ns)
    (λ k. (λ i. (ascending_in k ns).1 ((same k).0 i), λ i. (same k).1 ((ascending_in k ns).0 i)))
