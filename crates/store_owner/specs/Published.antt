-- What is published of a store, and that no stop takes it back. This project's own, docs/FORMAT.md, "Committing" and "Reading".
--
-- Bytes publish the batches behind their open gates, but for the last one where its slot is empty: nobody unmasks that one, as long as the
-- empty slot isn't its veil key by chance. Whoever reads at some moment reads what is shown then. A stop at that moment, or later, leaves
-- bytes that have all these batches, published or not.
use Rattle.std.specs.Prelude.{◌≡◌, ◌≤◌, ℕ, if◌then◌else◌, List, ◌++◌, Option, None}
use Rattle.std.specs.Str.{bytes_eq}
use Rattle.commit_journal.specs.Gates.{recovered}
use Rattle.commit_journal.specs.Holding as holding
use Rattle.commit_journal.specs.Holding.{IsPrefix}
use Rattle.commit_journal.specs.Image.{Batch, empty_slot}
use Rattle.commit_journal.specs.Journals.{IsJournalOf, JournalState}
use Rattle.commit_journal.specs.Publishing.{last_slot, without_last}
use Rattle.commit_journal.specs.Standing.{StandsFor, StandsUnpublished, StandsWhole}
use Rattle.commit_journal.specs.Stopping.{TakesNothingBack}
use Rattle.cry_base.specs.Limits.{most_file_bytes, most_store_bytes}
use Rattle.cry_io.specs.Stops.{IsDurable}
use Rattle.cry_io.specs.Told.{WhereTold}
use Rattle.journal_bytes.specs.Bytes.{batches_of}
use Rattle.public_fold.specs.Journal.{Journal}
use Rattle.store_owner.specs.Deeds.{Deed, deed_answer}
use Rattle.store_owner.specs.Owned.{IsOwnerOf, OwnerView, limits_in}
use Rattle.store_owner.specs.Stopping.{RestsAt}

-- the batches that bytes publish: those behind open gates, but for the last one where its slot is empty
unfoldable pub published_batches : List ℕ → List ℕ → List Batch
published_batches owner bytes =
    if bytes_eq (last_slot bytes) empty_slot then without_last (recovered owner bytes) else recovered owner bytes

-- the second bytes have all the batches that the first publish, and these come first
abbrev pub HasPublished : List ℕ → List ℕ → List ℕ → Type 0
HasPublished owner shown left = IsPrefix (published_batches owner shown) (recovered owner left)

-- whatever a stop may leave of a disk has all that the disk shows published
abbrev pub StaysPublished : List ℕ → Option (List ℕ) → (List ℕ → Type 0) → Type 0
StaysPublished owner shown may_leave = WhereTold shown (λ s. (c : List ℕ) → may_leave c → HasPublished owner s c)

-- From each moment of a call on, no stop takes back what was published then; and at each moment nothing is published but the first batches
-- of the journal
pub record PublishesUpTo (owner : List ℕ) (reached : Journal) (since : List ℕ → List ℕ → Type 0) (from_then_on : (List ℕ → List ℕ
    → Type 0) → Type 0) : Type 0 where
  pub kept : from_then_on (HasPublished owner)
  pub within : (s c : List ℕ) → since s c → IsPrefix (published_batches owner s) (batches_of owner reached)

-- Of whatever batches the journal stood, where nothing was pending and the disk showed the whole of them: from each moment on of a call
-- that adds batches, no stop takes back what was published.
abbrev pub AddsPublished : List Batch → JournalState → Option (List ℕ) → (List ℕ → Type 0) → ((List ℕ → List ℕ → Type 0) → Type 0) → Type 0
AddsPublished added old was might from_then_on =
    (bs : List Batch) → IsJournalOf bs old → IsDurable might was → holding.Shows (StandsWhole old.owner) bs was
    → from_then_on (TakesNothingBack (StandsFor old.owner) (StandsUnpublished old.owner) bs (bs ++ added))

-- each owner of a journal where the command is accepted, over a disk that rests there
abbrev pub PublishesWithin : Deed → OwnerView → Option (List ℕ) → (List ℕ → Type 0) → ((List ℕ → List ℕ → Type 0) → Type 0) → Type 0
PublishesWithin d o was might from_then_on = (m : Journal) → IsOwnerOf m o
    → o.journal.limit ≤ most_store_bytes → o.file_bytes ≤ most_file_bytes
    → deed_answer (limits_in o) m o.journal.has_epoch d ≡ None → RestsAt o.key m was might
    → from_then_on (HasPublished o.key)

-- A command, whatever it is answered, of an owner who stands for a journal over a disk that rests there: what is published at any moment of
-- it no stop takes back, then or at a later one.
abbrev pub PublishesOn : OwnerView → Option (List ℕ) → (List ℕ → Type 0) → ((List ℕ → List ℕ → Type 0) → Type 0) → Type 0
PublishesOn o was might from_then_on = (m : Journal) → IsOwnerOf m o → RestsAt o.key m was might → from_then_on (HasPublished o.key)
