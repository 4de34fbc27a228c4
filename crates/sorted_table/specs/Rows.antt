-- Rows in ascending order of a rank, which no two of them share.
use Rattle.std.specs.Prelude.{ℕ, ◌<◌, cond, not, ◌==◌, nat_lt, List, ◌∷◌, ◌++◌, Option, map, filter, find, AllPairs}

-- each row's rank is above those of the rows before it
abbrev pub IsRising : {T : Type 0} → (T → ℕ) → List T → Type 0
IsRising rank rows = AllPairs (λ x y. rank x < rank y) rows

-- the row with a rank
abbrev pub row_at : {T : Type 0} → (T → ℕ) → List T → ℕ → Option T
row_at rank rows k = find (λ r. rank r == k) rows

-- the rows below the new one, the new one, and the rows above it
abbrev pub with_row : {T : Type 0} → (T → ℕ) → List T → T → List T
with_row rank rows row = filter (λ r. nat_lt (rank r) (rank row)) rows ++ row ∷ filter (λ r. nat_lt (rank row) (rank r)) rows

-- all rows but the one with a rank
abbrev pub without : {T : Type 0} → (T → ℕ) → List T → ℕ → List T
without rank rows k = filter (λ r. not (rank r == k)) rows

-- the new row in the place of the one that has its rank
abbrev pub replaced : {T : Type 0} → (T → ℕ) → List T → T → List T
replaced rank rows row = map (λ r. cond (rank r == rank row) row r) rows
