-- When bytes stand for a journal, and what of it is published. This project's own, docs/FORMAT.md, "The file" and
-- "Committing".
use Rattle.std.specs.Prelude.{ℕ, List, Option}
use Rattle.commit_journal.specs.Holding as holding
use Rattle.commit_journal.specs.Publishing as publishing
use Rattle.commit_journal.specs.Standing.{StandsFor, StandsWhole}
use Rattle.public_fold.specs.Journal.{Journal}
use Rattle.public_fold.specs.Valid.{IsValid}
use Rattle.journal_bytes.specs.Bytes.{batches_of}
use Rattle.journal_bytes.specs.Keys.{AreWhole}

-- the journal is valid, its keys have 32 bytes, and the bytes stand for its batches
pub record StandsForJournal (owner : List ℕ) (m : Journal) (bytes : List ℕ) : Type 0 where
  pub valid : IsValid m
  pub whole_keys : AreWhole owner m
  pub stands : StandsFor owner (batches_of owner m) bytes

-- so they do, and the last slot holds its veil key
pub record StandsWholeForJournal (owner : List ℕ) (m : Journal) (bytes : List ℕ) : Type 0 where
  pub valid : IsValid m
  pub whole_keys : AreWhole owner m
  pub stands : StandsWhole owner (batches_of owner m) bytes

-- the disk shows the journal; it holds between two; it is settled at one
abbrev pub ShowsJournal : List ℕ → Journal → Option (List ℕ) → Type 0
ShowsJournal owner m shown = holding.Shows (StandsForJournal owner) m shown

abbrev pub HoldsBetween : List ℕ → Journal → Journal → Option (List ℕ) → (List ℕ → Type 0) → Type 0
HoldsBetween owner low high shown may_leave = holding.HoldsBetween (StandsForJournal owner) low high shown may_leave

abbrev pub IsSettled : List ℕ → Journal → Option (List ℕ) → (List ℕ → Type 0) → Type 0
IsSettled owner m shown may_leave = holding.IsSettled (StandsWholeForJournal owner) m shown may_leave

-- a call kept two journals up to a third
abbrev pub Kept : List ℕ → Journal → Journal → Journal → (List ℕ → List ℕ → Type 0) → Type 0
Kept owner low high reached since = holding.Kept (StandsForJournal owner) low high reached since

-- the journal as these bytes publish it: without its last entry where that batch isn't published
unfoldable pub published_journal : List ℕ → List ℕ → Journal → Journal
published_journal owner bytes m = publishing.published_of owner (publishing.last_slot bytes) (batches_of owner m) m

-- the last slot holds its veil key, or doesn't publish
abbrev pub IsHonestFor : List ℕ → List ℕ → Journal → Type 0
IsHonestFor owner bytes m = publishing.IsHonest owner (publishing.last_slot bytes) (batches_of owner m)
