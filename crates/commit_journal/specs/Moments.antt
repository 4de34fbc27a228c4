-- What is said of each moment of a call that reads a store, or opens it for writing. This project's own, docs/FORMAT.md, "Reading" and
-- "Opening for writing".
use Rattle.std.specs.Prelude.{◌≡◌, ◌≤◌, ◌⊎◌, ℕ, List, Option, Some}
use Rattle.cry_io.specs.Told.{WhereTold}
use Rattle.cry_io.specs.declared.disk.Disk as disk
use Rattle.batch_log.specs.Moments.{GoesOn, Throughout}
use Rattle.commit_journal.specs.declared.filling.Unfilled.{Unfilled}
use Rattle.commit_journal.specs.Filling.{LeavesUnfilled}
use Rattle.commit_journal.specs.Holding.{HoldsBetween, IsPrefix, Kept}
use Rattle.commit_journal.specs.Image.{Batch}
use Rattle.commit_journal.specs.Laws.{batches_from}
use Rattle.commit_journal.specs.Opening.{LeavesGated, LeavesSlot}
use Rattle.commit_journal.specs.Placed.{PlainBody}
use Rattle.commit_journal.specs.Standing.{StandsFor}
use Rattle.commit_journal.specs.WholeLogs.{StandsWithin}

-- time goes on, and at each moment of the call the disk shows what it showed, and a stop leaves what it left
pub record IsSameThroughout {D : Type 0} (disks : disk.Ghosts D) (old new : D) : Type 0 where
  pub later : disks.moment old ≤ disks.moment new
  pub time : GoesOn (disks.moment old) (disks.since old) (disks.since new)
  pub same : Throughout (λ s c. (disks.shown old ≡ Some s) × disks.may_leave old c) (disks.since new (disks.moment old))

-- a slot is filled: what is shown, and what a stop leaves, has it as before, or with any bytes where it didn't hold its veil key
abbrev pub FillsSlot : Unfilled → List ℕ → List ℕ → List ℕ → Type 0
FillsSlot slot old s c = LeavesSlot slot.place slot.veil old s × LeavesSlot slot.place slot.veil old c

-- These slots are filled one after another, each made to stay before the next: at each moment some of them are filled, in what is shown
-- and in what a stop leaves, and one more may hold any bytes
abbrev pub FillsThroughout : List Unfilled → Option (List ℕ) → (List ℕ → List ℕ → Type 0) → Type 0
FillsThroughout slots was since = WhereTold was (λ x. Throughout (λ s c. LeavesUnfilled slots x s × LeavesUnfilled slots x c) since)

-- A store is opened for writing: at each moment the disk shows what it showed, and what a stop leaves it left before the call; or both are
-- what was shown, with slots filled where its log passes every test
abbrev pub OpensThroughout : ℕ → List ℕ → Option (List ℕ) → (List ℕ → Type 0) → (List ℕ → List ℕ → Type 0) → Type 0
OpensThroughout limit owner was left since =
    WhereTold was (λ x. Throughout (λ s c. ((s ≡ x) × left c) ⊎ (LeavesGated limit owner x s × LeavesGated limit owner x c)) since)

-- Of what is shown at a moment, and of what a stop leaves then or later: the disk shows what it showed at the start; or what is left is
-- that, with slots filled where its log passes every test
abbrev pub OpensInOrder : ℕ → List ℕ → Option (List ℕ) → ((List ℕ → List ℕ → Type 0) → Type 0) → Type 0
OpensInOrder limit owner was from_then_on = WhereTold was (λ x. from_then_on (λ s c. (s ≡ x) ⊎ LeavesGated limit owner x c))

-- Of whatever two lists of batches: where the disk held between them and showed bytes that stand for batches within the store limit, which
-- lie between the two, a stop at each moment leaves bytes that stand for a list between them
abbrev pub KeepsHeld : ℕ → List ℕ → Option (List ℕ) → (List ℕ → Type 0) → (List ℕ → List ℕ → Type 0) → Type 0
KeepsHeld limit owner was left since =
    (low high : List Batch) (bodies : List PlainBody) → HoldsBetween (StandsFor owner) low high was left
    → WhereTold was (StandsWithin limit owner bodies) →
    IsPrefix low (batches_from 0 0 bodies) → IsPrefix (batches_from 0 0 bodies) high → Kept (StandsFor owner) low high high since
