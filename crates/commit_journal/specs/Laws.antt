-- Laws of the verdict on a log. This project's own, docs/FORMAT.md, "The file" and "Reading".
use Rattle.std.specs.Prelude.{◌≡◌, ◌≢◌, ◌<◌, ◌≤◌, ◌+◌, ℕ, List, [], ◌∷◌, ◌++◌, length, Ok, slice_range, slice_index_or}
use Rattle.cry_base.specs.Layout.{batch_len, header_len, payload_offset}
use Rattle.cry_base.specs.Limits.{most_store_bytes}
use Rattle.record_format.specs.declared.link.LinkRecord.{LinkRecord}
use Rattle.record_format.specs.Plain.{PlainContent, PlainPayload}
use Rattle.record_format.specs.Spellable.{IsSpellable}
use Rattle.record_format.specs.Spelling.{spell_payload, spell_link, spell_content}
use Rattle.commit_journal.specs.declared.batch_type.BatchType.TheVariants as types
use Rattle.commit_journal.specs.Image.{Batch, image}
use Rattle.commit_journal.specs.Log.{log_verdict}
use Rattle.commit_journal.specs.Placed.{PlainBody, Commands, NewEpoch, PlainPlaced}
use Rattle.commit_journal.specs.Places.{link_offset, content_offset}

-- the batch with this body, where so many batches and so many epochs are before it
abbrev pub batch_of : ℕ → ℕ → PlainBody → Batch
batch_of number epoch (Commands payload) =
    record { type_of = types.Command; number = number + 1; epoch = epoch; payload = spell_payload payload }
batch_of number epoch NewEpoch = record { type_of = types.NewEpoch; number = number + 1; epoch = epoch + 1; payload = [] }

-- the batches with these bodies, in order
abbrev pub batches_from : ℕ → ℕ → List PlainBody → List Batch
batches_from number epoch [] = []
batches_from number epoch (body ∷ bodies) =
    let batch = batch_of number epoch body in
    batch ∷ batches_from batch.number batch.epoch bodies

-- the same batches as a reader sees them, where the first one begins at this place
abbrev pub placed_from : ℕ → ℕ → ℕ → List PlainBody → List PlainPlaced
placed_from at number epoch [] = []
placed_from at number epoch (body ∷ bodies) =
    let batch = batch_of number epoch body in
    record { batch = batch.number; epoch = record { 0 = batch.epoch }; place = at + payload_offset; body = body }
    ∷ placed_from (at + (batch_len + length batch.payload)) batch.number batch.epoch bodies

-- a log may have these bodies: each command stands in an epoch, and its payload has a spelling
abbrev pub AreBodies : ℕ → List PlainBody → Type 0
AreBodies epoch [] = Unit {0}
AreBodies epoch (Commands payload ∷ bodies) = (1 ≤ epoch) × IsSpellable payload × AreBodies epoch bodies
AreBodies epoch (NewEpoch ∷ bodies) = AreBodies (epoch + 1) bodies

-- the image of published batches is read as these batches, if it ends with a closed gate and fits a store; what
-- follows that gate is not looked at
abbrev pub IsReadBack : Type 0
IsReadBack = (owner : List ℕ) (bodies : List PlainBody) (gate : ℕ) (behind : List ℕ) → AreBodies 0 bodies →
    length (image owner (batches_from 0 0 bodies)) + 1 ≤ most_store_bytes → gate ≢ 1 →
    log_verdict owner (image owner (batches_from 0 0 bodies) ++ gate ∷ behind) ≡ Ok (placed_from header_len 0 0 bodies)

-- a log that is read stays the same, whatever bytes follow the image: nothing behind its first closed gate is looked at
abbrev pub IsBlindBehind : Type 0
IsBlindBehind = (owner front behind : List ℕ) (placed : List PlainPlaced) →
    log_verdict owner front ≡ Ok placed → log_verdict owner (front ++ behind) ≡ Ok placed

-- the records of a payload stand in its spelling where their offsets say
abbrev pub RecordsStand : Type 0
RecordsStand = (p : PlainPayload) → IsSpellable p →
    ((i : ℕ) (d : LinkRecord) → i < length p.links →
    slice_range (spell_payload p) (link_offset p i) (link_offset p (i + 1)) ≡ spell_link (slice_index_or p.links i d))
    × ((i : ℕ) (d : PlainContent) → i < length p.contents →
    slice_range (spell_payload p) (content_offset p i) (content_offset p (i + 1)) ≡ spell_content (slice_index_or p.contents i d))
