-- Rows that stand in blocks, one block behind another.
use Rattle.std.specs.Prelude.{◌≡◌, ℕ, suc, ◌+◌, ◌-◌, ◌*◌, ◌^◌, min, ◌<◌, ◌≤◌, List, [], ◌∷◌, length, take, drop}
use Rattle.std.specs.List.{All, flat_map, sum_by}
use Rattle.sorted_table.specs.Tabled.{Tabled}

-- the rows of all blocks
abbrev pub rows_of : {T : Type 0} → List (Tabled T) → List T
rows_of {T} blocks = flat_map (λ (b : Tabled T). b.rows) blocks

-- the rank of the first row
abbrev pub first_rank : {T : Type 0} → (T → ℕ) → List T → ℕ
first_rank rank [] = 0
first_rank rank (r ∷ rows) = rank r

-- a block has a row, and room for as many as a block may have
abbrev pub IsBlock : {T : Type 0} → ℕ → Tabled T → Type 0
IsBlock most b = (1 ≤ length b.rows) × (length b.rows ≤ most) × (most ≤ length b.rows + b.spare)

-- a block that waits for rows
abbrev pub IsFresh : {T : Type 0} → ℕ → Tabled T → Type 0
IsFresh most b = (b.rows ≡ []) × (most ≤ b.spare)

-- the row with the rank stands in this block if anywhere
abbrev pub IsBlockFor : {T : Type 0} → (T → ℕ) → List (Tabled T) → ℕ → ℕ → Type 0
IsBlockFor rank blocks k i =
    (i < length blocks) × All (λ r. rank r < k) (rows_of (take i blocks)) × All (λ r. k < rank r) (rows_of (drop (suc i) blocks))

-- the rows of a block beyond those that a split leaves it
abbrev pub over : {T : Type 0} → Tabled T → ℕ
over b = length b.rows - 97

-- how many rows all blocks have, and how many of those are over
abbrev pub all_rows : {T : Type 0} → List (Tabled T) → ℕ
all_rows {T} blocks = sum_by (λ (b : Tabled T). length b.rows) blocks

abbrev pub all_over : {T : Type 0} → List (Tabled T) → ℕ
all_over {T} blocks = sum_by (λ (b : Tabled T). over b) blocks

-- those that are over; where there is no block the first row will take one, as a row that comes to a full block does
abbrev pub held : {T : Type 0} → List (Tabled T) → ℕ
held [] = 31
held {T} (b ∷ blocks) = all_over (b ∷ blocks)

-- how many rows fit beside those that are there, wherever they go. Each block that waits gives room for one that comes to a full block,
-- and then for 31 more before another block of these can be full
abbrev pub spare_of : ℕ → ℕ → ℕ
spare_of fresh rows = fresh + (31 * fresh + 31 - rows)

-- the same, where the rows are counted in 64 bits
abbrev pub room_for : ℕ → ℕ → ℕ → ℕ
room_for fresh rows count = min (spare_of fresh rows) (2 ^ 64 - 1 - count)
