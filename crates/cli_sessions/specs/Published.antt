-- What is published of a store while lines are applied to it, and that no stop takes it back. This project's own, docs/FORMAT.md,
-- "Committing", and docs/PROGRAM.md, "The program".
use Rattle.std.specs.Prelude.{ℕ, List, Option}
use Rattle.commit_journal.specs.Gates.{recovered}
use Rattle.commit_journal.specs.Holding.{IsPrefix}
use Rattle.journal_bytes.specs.Bytes.{batches_of}
use Rattle.journal_bytes.specs.Journals.{ShowsJournal}
use Rattle.public_fold.specs.Journal.{Journal}
use Rattle.store_owner.specs.Published.{HasPublished, StaysPublished}

-- what a stop leaves at each moment begins with all batches of the journal
abbrev pub KeepsBatches : List ℕ → Journal → (List ℕ → List ℕ → Type 0) → Type 0
KeepsBatches key m since = (s c : List ℕ) → since s c → IsPrefix (batches_of key m) (recovered key c)

-- The lines behind the opening, over a disk that rests at m when they begin: no stop at a moment of them takes back what was published
-- then, or at an earlier one of theirs, or what m has.
pub record LinesPublish (key : List ℕ) (m : Journal) (since : List ℕ → List ℕ → Type 0) (from_then_on : (List ℕ → List ℕ → Type 0) → Type 0)
    : Type 0 where
  pub kept : from_then_on (HasPublished key)
  pub has : KeepsBatches key m since

-- A whole call over this input, whatever it ends with: no stop at a moment of it takes back what was published then, or at an earlier one.
-- So it is for each journal with a key that the input hands in, where the disk showed it and no stop then took back what was published.
abbrev pub PublishesFor : (List ℕ → List ℕ → Type 0) → List ℕ → Option (List ℕ) → (List ℕ → Type 0)
    → ((List ℕ → List ℕ → Type 0) → Type 0) → Type 0
PublishesFor HandsIn typed was could_leave from_then_on = (key : List ℕ) (m : Journal) → HandsIn typed key
    → ShowsJournal key m was → StaysPublished key was could_leave → from_then_on (HasPublished key)
