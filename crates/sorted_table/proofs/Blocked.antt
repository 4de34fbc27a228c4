-- Rows in blocks, of which one is looked up or changed.
use Rattle.std.proofs.Common.{◌≡◌, ℕ, suc, ◌+◌, ◌≤◌, nat_le, filter, List, [], ◌∷◌, ◌++◌, length, get_or, set, take, drop, refl, sym, ap, subst, ◌∙◌, arith}
use Rattle.std.specs.List.{All, insert, remove}
use Rattle.std.proofs.lemmas.List.Concat.{flat_map-append}
use Rattle.sorted_table.specs.Parts.{rows_of, IsBlock, IsBlockFor}
use Rattle.sorted_table.specs.Rows.{IsRising, row_at, with_row, without, replaced}
use Rattle.sorted_table.specs.Tabled.{Tabled}
use Rattle.sorted_table.proofs.Around.{row_at-around, from-around, without-around, with_row-around, replaced-around}
use Rattle.sorted_table.proofs.Rising.{rising-with_row, rising-without, rising-replaced}
use Rattle.sorted_table.proofs.Writing.{removed_set}
use Rattle.sorted_table.proofs.Parted.{rows_at, rows_set, rows_split}

empty : (T : Type 0) (rows : List T) → length rows ≤ 0 → rows ≡ []
empty T [] none = refl
empty T (x ∷ rows) none = absurd (omega (arith, none))

module _ (T : Type 0) (rank : T → ℕ) (k : ℕ) (blocks : List (Tabled T)) (i : ℕ) (place : IsBlockFor rank blocks k i) where
  -- the block at the place
  module _ (b : Tabled T) (is : b ≡ get_or blocks i b) where
    pub all_rows : rows_of blocks ≡ rows_of (take i blocks) ++ (b.rows ++ rows_of (drop (suc i) blocks))
    all_rows =
        rows_at T blocks i b place.0
        ∙ ap (λ (a : Tabled T). rows_of (take i blocks) ++ (a.rows ++ rows_of (drop (suc i) blocks))) (sym is)

    pub block_row_at : row_at rank (rows_of blocks) k ≡ row_at rank b.rows k
    block_row_at = ap (λ l. row_at rank l k) all_rows ∙ row_at-around T rank k (rows_of (take i blocks)) b.rows (rows_of (drop (suc i) blocks)) place.1 place.2

    -- the rows from the rank on
    pub rows_on : (j : ℕ) → j ≡ i + 1 → filter (λ r. nat_le k (rank r)) (rows_of blocks) ≡ filter (λ r. nat_le k (rank r)) b.rows ++ rows_of (drop j blocks)
    rows_on j next =
        let same : suc i ≡ j = omega (arith, next) in
        ap (λ l. filter (λ r. nat_le k (rank r)) l) all_rows
        ∙ from-around T rank k (rows_of (take i blocks)) b.rows (rows_of (drop (suc i) blocks)) place.1 place.2
        ∙ ap (λ n. filter (λ r. nat_le k (rank r)) b.rows ++ rows_of (drop n blocks)) same

    -- all rows, where the block's are others
    edited : (edit : List T → List T) (a : Tabled T) → a.rows ≡ edit b.rows
        → edit (rows_of (take i blocks) ++ (b.rows ++ rows_of (drop (suc i) blocks))) ≡ rows_of (take i blocks) ++ (edit b.rows ++ rows_of (drop (suc i) blocks))
        → rows_of (set blocks i a) ≡ edit (rows_of blocks)
    edited edit a told around =
        rows_set T blocks i a place.0
        ∙ ap (λ (l : List T). rows_of (take i blocks) ++ (l ++ rows_of (drop (suc i) blocks))) told
        ∙ sym around
        ∙ ap edit (sym all_rows)

    pub block_with_row : (row : T) → rank row ≡ k → (a : Tabled T) → a.rows ≡ with_row rank b.rows row
        → rows_of (set blocks i a) ≡ with_row rank (rows_of blocks) row
    block_with_row row same a told = edited (λ l. with_row rank l row) a told
        (with_row-around T rank k (rows_of (take i blocks)) b.rows (rows_of (drop (suc i) blocks)) place.1 place.2 row same)

    pub block_replaced : (row : T) → rank row ≡ k → (a : Tabled T) → a.rows ≡ replaced rank b.rows row
        → rows_of (set blocks i a) ≡ replaced rank (rows_of blocks) row
    block_replaced row same a told = edited (λ l. replaced rank l row) a told
        (replaced-around T rank k (rows_of (take i blocks)) b.rows (rows_of (drop (suc i) blocks)) place.1 place.2 row same)

    pub block_without : (a : Tabled T) → a.rows ≡ without rank b.rows k → rows_of (set blocks i a) ≡ without rank (rows_of blocks) k
    block_without a told = edited (λ l. without rank l k) a told
        (without-around T rank k (rows_of (take i blocks)) b.rows (rows_of (drop (suc i) blocks)) place.1 place.2)

    pub block_removed : (a : Tabled T) → a.rows ≡ without rank b.rows k → length a.rows ≤ 0
        → rows_of (remove (set blocks i a) i) ≡ without rank (rows_of blocks) k
    block_removed a told none =
        let front = rows_of (take i blocks) in
        let behind = rows_of (drop (suc i) blocks) in
        ap (λ l. rows_of l) (removed_set (Tabled T) blocks i a place.0)
        ∙ flat_map-append (λ (e : Tabled T). e.rows) (take i blocks) (drop (suc i) blocks)
        ∙ ap (λ (l : List T). front ++ (l ++ behind)) (sym (empty T a.rows none))
        ∙ ap (λ (l : List T). front ++ (l ++ behind)) told
        ∙ sym (without-around T rank k front b.rows behind place.1 place.2)
        ∙ ap (λ l. without rank l k) (sym all_rows)

    pub block_split : (row : T) → rank row ≡ k → (a u : Tabled T) → a.rows ++ u.rows ≡ with_row rank b.rows row → (j : ℕ) → j ≡ i + 1
        → rows_of (insert (set blocks i a) j u) ≡ with_row rank (rows_of blocks) row
    block_split row same a u told j next =
        let after : j ≡ suc i = omega (arith, next) in
        ap (λ n. rows_of (insert (set blocks i a) n u)) after
        ∙ rows_split T blocks i a u place.0
        ∙ ap (λ (l : List T). rows_of (take i blocks) ++ (l ++ rows_of (drop (suc i) blocks))) told
        ∙ sym (with_row-around T rank k (rows_of (take i blocks)) b.rows (rows_of (drop (suc i) blocks)) place.1 place.2 row same)
        ∙ ap (λ l. with_row rank l row) (sym all_rows)

    module _ (rising : IsRising rank (rows_of blocks)) (filled : All (λ (b : Tabled T). IsBlock 128 b) blocks) where
      pub block_is : IsBlock 128 b
      block_is = subst (λ (e : Tabled T). IsBlock 128 e) (sym is) (filled i b place.0)

      pub rising_put : (row : T) → (rows : List T) → rows ≡ with_row rank (rows_of blocks) row → IsRising rank rows
      rising_put row rows told = subst (IsRising rank) (sym told) (rising-with_row T rank (rows_of blocks) rising row)

      pub rising_left : (rows : List T) → rows ≡ without rank (rows_of blocks) k → IsRising rank rows
      rising_left rows told = subst (IsRising rank) (sym told) (rising-without T rank (rows_of blocks) rising k)

      pub rising_still : (row : T) → (rows : List T) → rows ≡ replaced rank (rows_of blocks) row → IsRising rank rows
      rising_still row rows told = subst (IsRising rank) (sym told) (rising-replaced T rank (rows_of blocks) rising row)
