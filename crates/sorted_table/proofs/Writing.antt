-- A row that was written over another.
use Rattle.std.proofs.Common.{◌≡◌, ℕ, zero, suc, ◌<◌, List, [], ◌∷◌, length, set, refl, ap, arith}
use Rattle.std.specs.List.{remove}

-- a row that was put into the place of another stands in the place of that one
pub removed_set : (T : Type 0) (rows : List T) (i : ℕ) (row : T) → i < length rows → remove (set rows i row) i ≡ remove rows i
removed_set T [] i row within = absurd (omega arith)
removed_set T (x ∷ rows) zero row within = refl
removed_set T (x ∷ rows) (suc i) row within = ap (λ (l : List T). x ∷ l) (removed_set T rows i row (omega arith))
