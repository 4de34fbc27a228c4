-- Rows of different ranks, once they are sorted.
use Rattle.std.proofs.Common.{◌≡◌, ◌≢◌, ℕ, ◌≤◌, true, false, ◌==◌, List, get_or, refl, sym, arith}
use Rattle.std.specs.List.{AllPairs, IsDistinct}
use Rattle.std.specs.List.Sorted.{IsPermutation, IsNonDecreasingBy}
use Rattle.std.proofs.lemmas.Bool.{eq-eqb, eqb-true, eqb-false, ne_eqb}
use Rattle.std.proofs.lemmas.Map.Keys.{IsDistinct-IsPermutation, IsDistinct-from_apart, apart_from_distinct}
use Rattle.sorted_table.specs.Rows.{IsRising}

flipped : (a b : ℕ) → (a == b) ≡ (b == a)
flipped a b =
    (elim (a == b) as (λ v. (a == b) ≡ v → v ≡ (b == a)) [
      | true ↦ λ t. sym (eq-eqb b a (sym (eqb-true a b t)))
      | false ↦ λ t. sym (ne_eqb b a (λ e. eqb-false a b t (sym e)))
    ]) refl

module _ (T : Type 0) (rank : T → ℕ) (rows sorted : List T) where
  pub sorted_rise : AllPairs (λ x y. rank x ≢ rank y) rows → IsPermutation rows sorted → IsNonDecreasingBy rank sorted → IsRising rank sorted
  sorted_rise apart moved up =
      let same = λ (x y : T). rank x == rank y in
      let others : IsDistinct same rows = IsDistinct-from_apart same rows (λ i j d lt within. ne_eqb _ _ (apart i j d lt within)) in
      let left : IsDistinct same sorted = IsDistinct-IsPermutation same (λ x y. flipped (rank x) (rank y)) rows sorted moved others in
      λ i j d lt within.
      let least : rank (get_or sorted i d) ≤ rank (get_or sorted j d) = up i j d (omega (arith, lt)) within in
      let other = eqb-false _ _ (apart_from_distinct same sorted i j d left lt within) in
      omega (arith, least, other)
