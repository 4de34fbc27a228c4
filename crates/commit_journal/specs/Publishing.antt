-- Which batches of bytes are published. This project's own, docs/FORMAT.md, "The file" and "Reading".
use Rattle.std.specs.Prelude.{◌≡◌, ◌⊎◌, ℕ, Bool, true, if◌then◌else◌, List, [], ◌∷◌}
use Rattle.std.specs.Str.{bytes_eq}
use Rattle.hmac_seal.specs.Hmac.{hmac}
use Rattle.commit_journal.specs.Image.{Batch, batch_veil, masked_payload, batch_check}
use Rattle.commit_journal.specs.Gates.{gated}
use Rattle.commit_journal.specs.Log.{slot_in}

-- the batch is published by these bytes in its slot: they make its check
abbrev pub IsPublished : List ℕ → List ℕ → Batch → Type 0
IsPublished owner slot b = hmac slot (masked_payload owner b) ≡ batch_check owner b

-- whether the last batch is published by these bytes. Where there is none, nothing is unpublished
unfoldable pub is_last_published : List ℕ → List ℕ → List Batch → Bool
is_last_published owner slot [] = true
is_last_published owner slot (b ∷ []) = bytes_eq (hmac slot (masked_payload owner b)) (batch_check owner b)
is_last_published owner slot (b ∷ next ∷ bs) = is_last_published owner slot (next ∷ bs)

-- all but the last one
unfoldable pub without_last : {X : Type 0} → List X → List X
without_last [] = []
without_last (x ∷ []) = []
without_last (x ∷ next ∷ xs) = x ∷ without_last (next ∷ xs)

-- what stands for the batches that are published: all of it, or all but the last one
unfoldable pub published_of : {X : Type 0} → List ℕ → List ℕ → List Batch → List X → List X
published_of owner slot bs xs = if is_last_published owner slot bs then xs else without_last xs

-- the last slot holds its veil key, or it doesn't publish its batch: no other bytes do that
abbrev pub IsHonest : List ℕ → List ℕ → List Batch → Type 0
IsHonest owner slot [] = Unit {0}
IsHonest owner slot (b ∷ []) = (slot ≡ batch_veil owner b) ⊎ (IsPublished owner slot b → ⊥)
IsHonest owner slot (b ∷ next ∷ bs) = IsHonest owner slot (next ∷ bs)

-- the slot of the last batch behind an open gate, and no bytes where there is none
unfoldable pub last_slot_in : List (List ℕ) → List ℕ
last_slot_in [] = []
last_slot_in (batch ∷ []) = slot_in batch
last_slot_in (batch ∷ next ∷ batches) = last_slot_in (next ∷ batches)

unfoldable pub last_slot : List ℕ → List ℕ
last_slot bytes = last_slot_in (gated bytes)
