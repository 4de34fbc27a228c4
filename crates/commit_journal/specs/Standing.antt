-- When bytes stand for batches. This project's own, docs/FORMAT.md, "The file" and "Committing".
use Rattle.std.specs.Prelude.{◌≡◌, ◌≢◌, ◌<◌, ◌^◌, ℕ, List, [], ◌∷◌, ◌++◌, length}
use Rattle.chacha_seal.specs.Sealing.{check_of}
use Rattle.commit_journal.specs.Image.{Batch, batch_veil, empty_slot, owner_tag, spell_batch, spell_header, image}

-- batches that follow a tag, each behind its open gate, with these bytes in the slot of the last one
unfoldable pub spell_slotted : List ℕ → List ℕ → List ℕ → List Batch → List ℕ
spell_slotted owner previous slot [] = []
spell_slotted owner previous slot (b ∷ []) = 1 ∷ spell_batch owner previous slot b
spell_slotted owner previous slot (b ∷ next ∷ bs) =
    1 ∷ (spell_batch owner previous (batch_veil owner b) b ++ spell_slotted owner (owner_tag owner previous b) slot (next ∷ bs))

-- the image, but for the slot of the last batch
unfoldable pub slotted_image : List ℕ → List ℕ → List Batch → List ℕ
slotted_image owner slot bs = spell_header owner ++ spell_slotted owner (check_of owner) slot bs

-- the bytes begin with the image of the batches, whose last slot may hold any 32 bytes, and a closed gate follows.
-- Behind it stand any bytes
pub record StandsFor (owner : List ℕ) (bs : List Batch) (bytes : List ℕ) : Type 0 where
  pub slot : List ℕ
  pub gate : ℕ
  pub behind : List ℕ
  pub slot_size : length slot ≡ 32
  pub closed : gate ≢ 1
  pub bytes_are : bytes ≡ slotted_image owner slot bs ++ gate ∷ behind

-- they stand for the batches, and the last slot holds its veil key
pub record StandsWhole (owner : List ℕ) (bs : List Batch) (bytes : List ℕ) : Type 0 where
  pub gate : ℕ
  pub behind : List ℕ
  pub closed : gate ≢ 1
  pub bytes_are : bytes ≡ image owner bs ++ gate ∷ behind

-- they stand for the batches, of which the last one isn't published: its slot is empty
abbrev pub StandsUnpublished : List ℕ → List Batch → List ℕ → Type 0
StandsUnpublished owner bs bytes = (stands : StandsFor owner bs bytes) × (stands.slot ≡ empty_slot)

-- the tag that the next batch follows
unfoldable pub tag_behind : List ℕ → List ℕ → List Batch → List ℕ
tag_behind owner previous [] = previous
tag_behind owner previous (b ∷ bs) = tag_behind owner (owner_tag owner previous b) bs

abbrev pub last_tag : List ℕ → List Batch → List ℕ
last_tag owner bs = tag_behind owner (check_of owner) bs

-- number, epoch and payload have the sizes of the format
pub record HasSizes (b : Batch) : Type 0 where
  pub number : b.number < 2 ^ 32
  pub epoch : b.epoch < 2 ^ 32
  pub payload : length b.payload < 2 ^ 32
