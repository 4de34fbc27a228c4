-- What a call hands a disk: writes, one after another. This project's own, docs/FORMAT.md, "Committing".
use Rattle.std.specs.Prelude.{◌≡◌, ◌⊎◌, ◌+◌, ◌-◌, ℕ, List, [], ◌∷◌, length, Option, Some}
use Rattle.cry_base.specs.Layout.{slot_offset}
use Rattle.cry_io.specs.Stops.{Torn}
use Rattle.cry_io.specs.Told.{WhereTold}
use Rattle.batch_log.specs.Moments.{Throughout}
use Rattle.batch_log.specs.Steps.{written_at}

-- these bytes at this place
pub record Write : Type 0 where
  pub place : ℕ
  pub bytes : List ℕ

-- the list once these writes were done
unfoldable pub all_written : List Write → List ℕ → List ℕ
all_written [] old = old
all_written (w ∷ ws) old = all_written ws (written_at w.place w.bytes old)

-- the first of these writes were done: none, some or all of them
unfoldable pub IsStage : List Write → List ℕ → List ℕ → Type 0
IsStage [] old s = s ≡ old
IsStage (w ∷ ws) old s = (s ≡ old) ⊎ IsStage ws (written_at w.place w.bytes old) s

-- the first of them were done, and any part of the next one
unfoldable pub IsTornStage : List Write → List ℕ → List ℕ → Type 0
IsTornStage [] old s = ⊥
IsTornStage (w ∷ ws) old s = Torn w.place (length w.bytes) old s ⊎ IsTornStage ws (written_at w.place w.bytes old) s

-- A call hands the disk the first of these writes, and no other byte: in each list that it shows at a moment, as a whole, so many of them
-- are done. Where the disk failed, the list that it shows in the end, and no other, may have a part of the next one.
abbrev pub Hands : List Write → Type 0 → Option (List ℕ) → Option (List ℕ) → (List ℕ → List ℕ → Type 0) → Type 0
Hands writes failed was shown since =
    WhereTold was (λ x. Throughout (λ s c. IsStage writes x s ⊎ (failed × (shown ≡ Some s) × IsTornStage writes x s)) since)

-- the three by which a batch joins the log that ends at this place: it stands behind the closed gate; that gate is open; the veil key is
-- in the slot
abbrev pub batch_writes : ℕ → List ℕ → List ℕ → List Write
batch_writes end batch veil =
    record { place = end; bytes = batch } ∷ record { place = end - 1; bytes = 1 ∷ [] }
    ∷ record { place = end + slot_offset; bytes = veil } ∷ []
