-- What a stop at any moment of a command leaves on the disk, by the batches and by the journal that its bytes stand for. This project's
-- own, docs/FORMAT.md, "Committing".
use Rattle.std.specs.Prelude.{◌≡◌, ◌≤◌, ℕ, cond, List, [], ◌∷◌, ◌++◌, drop, length, Option, None, Some}
use Rattle.cry_base.specs.Limits.{most_file_bytes, most_store_bytes}
use Rattle.cry_io.specs.Stops.{IsDurable}
use Rattle.cry_io.specs.Told.{WhereTold}
use Rattle.commit_journal.specs.Handing.{Hands, Write, all_written, log_writes}
use Rattle.commit_journal.specs.Holding as holding
use Rattle.commit_journal.specs.Image.{Batch}
use Rattle.commit_journal.specs.Journals.{IsJournalOf, JournalState, next_epoch}
use Rattle.commit_journal.specs.Standing.{StandsFor, StandsWhole}
use Rattle.public_fold.specs.Journal.{Journal}
use Rattle.journal_bytes.specs.Bytes.{batches_of}
use Rattle.journal_bytes.specs.Journals.{HoldsBetween, Kept, StandsWholeForJournal}
use Rattle.store_owner.specs.Deeds.{Deed, deed_answer, deed_then}
use Rattle.store_owner.specs.Owned.{IsOwnerOf, OwnerView, limits_in}

-- the writes by which a journal becomes one that it begins: those of the batches that follow
abbrev pub journal_writes : List ℕ → Journal → Journal → List Write
journal_writes key low high = log_writes key (batches_of key low) (drop (length (batches_of key low)) (batches_of key high))

-- the disk shows what it showed, with all these writes done
abbrev pub ShowsWritten : List Write → Option (List ℕ) → Option (List ℕ) → Type 0
ShowsWritten writes was shows = WhereTold was (λ x. shows ≡ Some (all_written writes x))

-- the disk rests at a journal: it shows the whole of it, and nothing is pending
pub record RestsAt (key : List ℕ) (m : Journal) (shown : Option (List ℕ)) (may_leave : List ℕ → Type 0) : Type 0 where
  pub shows : holding.Shows (StandsWholeForJournal key) m shown
  pub durable : IsDurable may_leave shown

-- Of a disk that rested at the first journal: at each moment of the call, whatever a stop may leave stands for a journal between the two;
-- and between them lies all that the disk holds at its end. Whatever the disk showed, it is handed the writes of the batches between the
-- two, and nothing else; a fault may have torn the last of them.
pub record StopsBetween (key : List ℕ) (low high : Journal) (was shows : Option (List ℕ)) (might may : List ℕ → Type 0) (since : List ℕ
    → List ℕ → Type 0) : Type 0 where
  pub kept : RestsAt key low was might → Kept key low low high since
  pub holds : RestsAt key low was might → HoldsBetween key low high shows may
  pub hands : Hands (journal_writes key low high) (Unit {0}) was shows since

-- so it is, and in the end the disk rests at the second, and shows all those writes done
pub record ComesToRest (key : List ℕ) (low high : Journal) (was shows : Option (List ℕ)) (might may : List ℕ → Type 0) (since : List ℕ
    → List ℕ → Type 0) : Type 0 where
  pub stops : StopsBetween key low high was shows might may since
  pub rests : RestsAt key low was might → RestsAt key high shows may
  pub handed : ShowsWritten (journal_writes key low high) was shows

-- the batch that begins the session's epoch, where it has begun none yet
abbrev pub epoch_due : JournalState → List Batch
epoch_due j = cond j.has_epoch [] (next_epoch j ∷ [])

-- Of whatever batches the journal stood, where nothing was pending and the disk showed the whole of them: at each moment of the call,
-- whatever a stop may leave stands for these, or for these with some of those that are added; and so does all that the disk holds at its
-- end. Whatever the disk showed, it is handed the writes of those that are added, and nothing else; a fault may have torn the last of them.
pub record AddsBatches (added : List Batch) (old : JournalState) (was shows : Option (List ℕ)) (might may : List ℕ
    → Type 0) (since : List ℕ → List ℕ → Type 0) : Type 0 where
  pub kept : (bs : List Batch) → IsJournalOf bs old → IsDurable might was → holding.Shows (StandsWhole old.owner) bs was
      → holding.Kept (StandsFor old.owner) bs (bs ++ added) (bs ++ added) since
  pub holds : (bs : List Batch) → IsJournalOf bs old → IsDurable might was → holding.Shows (StandsWhole old.owner) bs was
      → holding.HoldsBetween (StandsFor old.owner) bs (bs ++ added) shows may
  pub hands : (bs : List Batch) → IsJournalOf bs old → Hands (log_writes old.owner bs added) (Unit {0}) was shows since

-- in the end the disk shows all those writes done
abbrev pub HasAdded : List Batch → JournalState → Option (List ℕ) → Option (List ℕ) → Type 0
HasAdded added old was shows = (bs : List Batch) → IsJournalOf bs old → ShowsWritten (log_writes old.owner bs added) was shows

-- each owner of a journal where the command is accepted: a stop leaves the journal, or it with the session begun, or with the command too
abbrev pub StopsWithin : Deed → List (List ℕ) → OwnerView → Option (List ℕ) → Option (List ℕ) → (List ℕ → Type 0) → (List ℕ → Type 0)
    → (List ℕ → List ℕ → Type 0) → Type 0
StopsWithin d drawn o was shows might may since = (m : Journal) → IsOwnerOf m o
    → o.journal.limit ≤ most_store_bytes → o.file_bytes ≤ most_file_bytes
    → deed_answer (limits_in o) m o.journal.has_epoch d ≡ None
    → StopsBetween o.key m (deed_then m o.journal.has_epoch d drawn) was shows might may since

-- and where the command was done, the disk shows all writes of its batches done
abbrev pub HandsAll : Deed → List (List ℕ) → OwnerView → Option (List ℕ) → Option (List ℕ) → Type 0
HandsAll d drawn o was shows = (m : Journal) → IsOwnerOf m o
    → o.journal.limit ≤ most_store_bytes → o.file_bytes ≤ most_file_bytes
    → deed_answer (limits_in o) m o.journal.has_epoch d ≡ None
    → ShowsWritten (journal_writes o.key m (deed_then m o.journal.has_epoch d drawn)) was shows
