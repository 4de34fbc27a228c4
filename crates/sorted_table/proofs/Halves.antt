-- A row that goes to one of two lists which rise together.
use Rattle.std.proofs.Common.{◌≡◌, ℕ, ◌<◌, ◌≤◌, List, [], ◌++◌, length, sym, ap, ◌∙◌, arith}
use Rattle.std.specs.List.{All}
use Rattle.std.proofs.lemmas.List.{append-nil}
use Rattle.std.proofs.lemmas.List.Elements.{All-nil, All-weaker}
use Rattle.sorted_table.specs.Parts.{first_rank}
use Rattle.sorted_table.specs.Rows.{IsRising, row_at, with_row}
use Rattle.sorted_table.proofs.Around.{row_at-around, with_row-around}
use Rattle.sorted_table.proofs.Parted.{pairs_parts, first_within, first_has}

module _ (T : Type 0) (rank : T → ℕ) (lower upper : List T) (k : ℕ) (rising : IsRising rank (lower ++ upper)) where
  module _ (low : All (λ r. rank r < k) lower) where
    pub row_at-upper : row_at rank (lower ++ upper) k ≡ row_at rank upper k
    row_at-upper =
        ap (λ (l : List T). row_at rank (lower ++ l) k) (sym (append-nil upper))
        ∙ row_at-around T rank k lower upper [] low (All-nil (λ r. k < rank r))

    pub with_row-upper : (row : T) → rank row ≡ k → with_row rank (lower ++ upper) row ≡ lower ++ with_row rank upper row
    with_row-upper row same =
        ap (λ (l : List T). with_row rank (lower ++ l) row) (sym (append-nil upper))
        ∙ with_row-around T rank k lower upper [] low (All-nil (λ r. k < rank r)) row same
        ∙ ap (λ (l : List T). lower ++ l) (append-nil (with_row rank upper row))

  -- the upper ones begin at the rank or below it
  pub lower_below : 1 ≤ length upper → first_rank rank upper ≤ k → All (λ r. rank r < k) lower
  lower_below some up = All-weaker (λ x. All (λ y. rank x < rank y) upper) (λ x. rank x < k)
      (λ x all. let less : rank x < first_rank rank upper = first_has T rank (λ n. rank x < n) upper some all in omega (arith, less, up)) lower (pairs_parts T (λ x y. rank x < rank y) lower upper rising).2

  module _ (up : k < first_rank rank upper) where
    upper_above : All (λ r. k < rank r) upper
    upper_above = All-weaker (λ x. first_rank rank upper ≤ rank x) (λ x. k < rank x) (λ x le. omega (arith, le, up)) upper (first_within T rank upper (pairs_parts T (λ x y. rank x < rank y) lower upper rising).1)

    pub row_at-lower : row_at rank (lower ++ upper) k ≡ row_at rank lower k
    row_at-lower = row_at-around T rank k [] lower upper (All-nil (λ r. rank r < k)) upper_above

    pub with_row-lower : (row : T) → rank row ≡ k → with_row rank (lower ++ upper) row ≡ with_row rank lower row ++ upper
    with_row-lower row same = with_row-around T rank k [] lower upper (All-nil (λ r. rank r < k)) upper_above row same
