-- The slots that aren't their veil keys when a store is opened for writing, and what is left of an image where these are filled. This
-- project's own, docs/FORMAT.md, "Opening for writing".
use Rattle.std.specs.Prelude.{◌≡◌, ◌≢◌, ◌⊎◌, ◌≤◌, ℕ, ◌+◌, ◌-◌, if◌then◌else◌, List, [], ◌∷◌, ◌++◌, length, slice_range, Option, None, Some}
use Rattle.std.specs.Option.{option_to_list}
use Rattle.std.specs.Str.{bytes_eq}
use Rattle.cry_base.specs.Layout.{batch_len, slot_offset}
use Rattle.batch_log.specs.Steps.{IsGatedAt, written_at}
use Rattle.chacha_seal.specs.Sealing.{veil_of}
use Rattle.commit_journal.specs.declared.filling.Unfilled.{Unfilled}
use Rattle.commit_journal.specs.Opening.{LeavesSlot}
use Rattle.commit_journal.specs.Placed.{PlainPlaced}

-- the slot at this place, if it isn't the veil key
unfoldable pub unfilled_slot : ℕ → List ℕ → List ℕ → Option Unfilled
unfilled_slot place slot veil = if bytes_eq slot veil then None else Some (record { place = place; veil = veil })

-- that of a batch in an image. It stands 32 bytes before the payload
abbrev pub unfilled_of : List ℕ → PlainPlaced → List ℕ → Option Unfilled
unfilled_of owner p image =
    unfilled_slot (p.place - 32) (slice_range image (p.place - 32) (p.place - 32 + 32)) (veil_of owner p.epoch.0 p.batch)

-- those of a log's batches, in order
unfoldable pub unfilled_in : List ℕ → List PlainPlaced → List ℕ → List Unfilled
unfilled_in owner [] image = []
unfilled_in owner (p ∷ ps) image = option_to_list (unfilled_of owner p image) ++ unfilled_in owner ps image

-- the image with its veil key in each of these slots
unfoldable pub all_filled : List Unfilled → List ℕ → List ℕ
all_filled [] image = image
all_filled (slot ∷ slots) image = all_filled slots (written_at slot.place slot.veil image)

-- the slot stands behind the header, in a batch that ends within so many bytes
pub record IsWithin (size : ℕ) (slot : Unfilled) : Type 0 where
  pub behind : 55 ≤ slot.place
  pub inside : slot.place + 97 ≤ size

-- in an image: its batch stands behind an open gate, and it isn't its veil key
pub record IsUnfilled (slot : Unfilled) (image : List ℕ) : Type 0 where
  pub gated : IsGatedAt (slot.place - slot_offset) batch_len image
  pub size : length slot.veil ≡ 32
  pub differs : slice_range image slot.place (slot.place + 32) ≢ slot.veil

-- so are these, one behind another from this place on
abbrev pub AreUnfilled : ℕ → List Unfilled → List ℕ → Type 0
AreUnfilled from [] image = Unit {0}
AreUnfilled from (slot ∷ slots) image =
    (from + slot_offset ≤ slot.place) × IsUnfilled slot image × AreUnfilled (slot.place + 97) slots image

-- what is left where filling these met a fault of the disk: the first of them are filled, and so is left the next
unfoldable pub LeavesUnfilled : List Unfilled → List ℕ → List ℕ → Type 0
LeavesUnfilled [] old new = new ≡ old
LeavesUnfilled (slot ∷ slots) old new =
    LeavesSlot slot.place slot.veil old new ⊎ LeavesUnfilled slots (written_at slot.place slot.veil old) new
