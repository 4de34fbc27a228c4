-- Where a row stands among rising rows, or where it would go.
use Rattle.std.specs.Prelude.{◌≡◌, ℕ, ◌<◌, ◌≤◌, List, length}
use Rattle.std.specs.List.{HoldsAt, AllWithin}

-- the row with the rank stands at the place
abbrev pub IsAt : {T : Type 0} → (T → ℕ) → List T → ℕ → ℕ → Type 0
IsAt rank rows k place = (place < length rows) × HoldsAt (λ r. rank r ≡ k) rows place

-- no row has the rank: those before the place are below it, and those from there on above it
abbrev pub IsGapFor : {T : Type 0} → (T → ℕ) → List T → ℕ → ℕ → Type 0
IsGapFor rank rows k place =
    (place ≤ length rows) × AllWithin (λ r. rank r < k) rows 0 place × AllWithin (λ r. k < rank r) rows place (length rows)
