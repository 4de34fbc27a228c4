-- A log of which the first batches were read. This project's own, docs/FORMAT.md, "Reading".
use Rattle.std.specs.Prelude.{◌≡◌, ◌≤◌, ℕ, List, None, length, take}
use Rattle.cry_base.specs.Layout.{header_len}
use Rattle.commit_journal.specs.Streaming.{ArePlaced, LogState}
use Rattle.journal_bytes.specs.Folds.{log_of}
use Rattle.public_fold.specs.Journal.{Journal}

-- somebody without the owner's key was given the first so many batches of a journal
pub record IsFront (owner : List ℕ) (m : Journal) (k : ℕ) (log : LogState) : Type 0 where
  pub no_owner : log.owner ≡ None
  pub placed : ArePlaced header_len 0 0 log.given log.starts log.past
  pub given : log.given ≡ take k (log_of owner m)
  pub within : k ≤ length m
