-- The writes that a journal hands a disk. This project's own, docs/FORMAT.md, "Committing" and "Opening for writing".
use Rattle.std.specs.Prelude.{ℕ, ◌+◌, List, [], ◌∷◌, ◌++◌, length, map, Option, Result, Ok, Err}
use Rattle.cry_io.specs.Told.{WhereTold}
pub use Rattle.batch_log.specs.Handing.{Hands, Write, all_written, batch_writes}
use Rattle.commit_journal.specs.declared.filling.Unfilled.{Unfilled}
use Rattle.commit_journal.specs.Answering.{Fault}
use Rattle.commit_journal.specs.Filling.{unfilled_in}
use Rattle.commit_journal.specs.Image.{Batch, batch_veil, empty_slot, image, spell_batch}
use Rattle.commit_journal.specs.Journals.{JournalState}
use Rattle.commit_journal.specs.Opening.{OwnedLog, opening_verdict}
use Rattle.commit_journal.specs.Standing.{last_tag}
use Rattle.commit_journal.specs.Stopping.{staged_batch}

-- the one that makes a store without batches
abbrev pub header_writes : List ℕ → List Write
header_writes owner = record { place = 0; bytes = image owner [] ++ 0 ∷ [] } ∷ []

-- the three by which a journal's next batch joins its log
abbrev pub joining_writes : Batch → JournalState → List Write
joining_writes b j = batch_writes j.end (staged_batch j b) (batch_veil j.owner b)

-- those by which batches join the log of others, one batch after another
unfoldable pub log_writes : List ℕ → List Batch → List Batch → List Write
log_writes owner bs [] = []
log_writes owner bs (b ∷ more) =
    batch_writes (length (image owner bs) + 1) (spell_batch owner (last_tag owner bs) empty_slot b ++ 0 ∷ []) (batch_veil owner b)
    ++ log_writes owner (bs ++ b ∷ []) more

-- the one that fills a slot
abbrev pub slot_write : Unfilled → Write
slot_write slot = record { place = slot.place; bytes = slot.veil }

-- those by which a log is opened for writing: its veil key into each slot that isn't it. Where a test of the log fails there are none
unfoldable pub filling_writes : List ℕ → List ℕ → Result OwnedLog Fault → List Write
filling_writes owner image (Ok log) = map slot_write (unfilled_in owner log.placed image)
filling_writes owner image (Err fault) = []

unfoldable pub opening_writes : ℕ → List ℕ → List ℕ → List Write
opening_writes limit owner image = filling_writes owner image (opening_verdict limit owner image)

-- a store is opened for writing, and the disk is handed these alone
abbrev pub HandsOpening : ℕ → List ℕ → Type 0 → Option (List ℕ) → Option (List ℕ) → (List ℕ → List ℕ → Type 0) → Type 0
HandsOpening limit owner failed was shown since = WhereTold was (λ x. Hands (opening_writes limit owner x) failed was shown since)
