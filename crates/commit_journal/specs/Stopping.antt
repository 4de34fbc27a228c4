-- What a stop at any moment of a commit leaves. This project's own, docs/FORMAT.md, "Committing".
use Rattle.std.specs.Prelude.{◌⊎◌, ℕ, List, [], ◌∷◌, ◌++◌, Option}
use Rattle.cry_io.specs.Stops.{IsDurable}
use Rattle.cry_io.specs.Told.{WhereTold}
use Rattle.batch_log.specs.Moments.{Throughout}
use Rattle.batch_log.specs.Steps.{EndsAt, IsHeldWhereShown}
use Rattle.commit_journal.specs.Holding.{HoldsBetween, IsPrefix, Kept, Shows}
use Rattle.commit_journal.specs.Image.{Batch, empty_slot, spell_batch}
use Rattle.commit_journal.specs.Journals.{JournalState, IsJournalOf}
use Rattle.commit_journal.specs.Publishing.{without_last}
use Rattle.commit_journal.specs.Standing.{StandsFor, StandsUnpublished, StandsWhole}

-- a journal's next batch as it is written at first: with an empty slot, and a closed gate behind it
abbrev pub staged_batch : JournalState → Batch → List ℕ
staged_batch j b = spell_batch j.owner j.tag empty_slot b ++ 0 ∷ []

-- Of whatever batches the journal stood: where the disk showed their whole image and nothing was pending, a stop at each moment leaves
-- bytes that stand for these, or for these and one more
abbrev pub KeepsLog : Batch → JournalState → Option (List ℕ) → (List ℕ → Type 0) → (List ℕ → List ℕ → Type 0) → Type 0
KeepsLog b old was may_leave since = (bs : List Batch) → IsJournalOf bs old → IsDurable may_leave was → Shows (StandsWhole old.owner) bs was
    → Kept (StandsFor old.owner) bs (bs ++ b ∷ []) (bs ++ b ∷ []) since

-- and so does what the call leaves, which the disk shows, or which a stop leaves
abbrev pub HoldsLog : Batch → JournalState → Option (List ℕ) → (List ℕ → Type 0) → Option (List ℕ) → (List ℕ → Type 0) → Type 0
HoldsLog b old was left shown may_leave = (bs : List Batch) → IsJournalOf bs old → IsDurable left was → Shows (StandsWhole old.owner) bs was
    → HoldsBetween (StandsFor old.owner) bs (bs ++ b ∷ []) shown may_leave

-- Where nothing was pending and the log ended with a closed gate: at each moment in which the gate that is shown is open and the slot that
-- is shown isn't zero, a stop leaves the whole batch, its slot aside, behind an open gate
abbrev pub HoldsPublished : Batch → JournalState → Option (List ℕ) → (List ℕ → Type 0) → (List ℕ → List ℕ → Type 0) → Type 0
HoldsPublished b old was may_leave since =
    IsDurable may_leave was → WhereTold was (λ x. EndsAt old.end x → Throughout (IsHeldWhereShown old.end (staged_batch old b)) since)

-- What is shown at a moment, and what a stop leaves then or later: each stands for a list between the two. What is left begins with all
-- that is shown; or the last slot that is shown is empty, so that the last entry isn't published, and what is left begins with the others.
-- So no stop takes back what was published
pub record TakesNothingBack {X : Type 0} (stands unpublished : List X → List ℕ → Type 0) (low high : List X) (s c : List ℕ) : Type 0 where
  pub shown : List X
  pub left : List X
  pub shown_from : IsPrefix low shown
  pub shown_to : IsPrefix shown high
  pub left_from : IsPrefix low left
  pub left_to : IsPrefix left high
  pub shown_stands : stands shown s
  pub left_stands : stands left c
  pub begins : IsPrefix shown left ⊎ (unpublished shown s × IsPrefix (without_last shown) left)

-- so it is from each moment of a commit on, of whatever batches the journal stood, where the disk showed their whole image and nothing was
-- pending
abbrev pub KeepsPublished : Batch → JournalState → Option (List ℕ) → (List ℕ → Type 0) → ((List ℕ → List ℕ → Type 0) → Type 0) → Type 0
KeepsPublished b old was may_leave from_then_on =
    (bs : List Batch) → IsJournalOf bs old → IsDurable may_leave was → Shows (StandsWhole old.owner) bs was
    → from_then_on (TakesNothingBack (StandsFor old.owner) (StandsUnpublished old.owner) bs (bs ++ b ∷ []))
