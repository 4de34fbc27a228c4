-- How a command ends that only reads a store. This project's own, docs/PROGRAM.md, "The program".
use Rattle.std.specs.Prelude.{Bool, true, false}
use Rattle.commit_journal.specs.Answering.{NotAStore, WrongKey, Damaged, Tampered}
use Rattle.log_visits.specs.Judging.{Failure, NoHolder, OfBytes, Unseen}
pub use Rattle.cli_base.specs.Input.{input_status}
use Rattle.cli_base.specs.declared.status.Status.{Status}
use Rattle.cli_base.specs.declared.status.Status.TheVariants as statuses

-- where a test of the store fails
abbrev pub failure_status : Failure → Status
failure_status (OfBytes NotAStore) = statuses.NotAStore
failure_status (OfBytes WrongKey) = statuses.WrongKey
failure_status (OfBytes (Damaged at)) = statuses.Damaged at
failure_status (OfBytes (Tampered batch at)) = statuses.Tampered batch at
failure_status (NoHolder known) = statuses.NoHolder known
failure_status Unseen = statuses.Unseen

-- how it may end, for a command that may tell "unseen" or one that doesn't, and for words that name a head or none
abbrev pub is_reading_answer : Bool → Bool → Status → Bool
is_reading_answer tells_unseen tells_head statuses.Done = true
is_reading_answer tells_unseen tells_head statuses.Usage = false
is_reading_answer tells_unseen tells_head (statuses.BadScript line) = true
is_reading_answer tells_unseen tells_head statuses.ReadFault = true
is_reading_answer tells_unseen tells_head statuses.WriteFault = true
is_reading_answer tells_unseen tells_head statuses.DiskFault = true
is_reading_answer tells_unseen tells_head statuses.RandomFault = false
is_reading_answer tells_unseen tells_head (statuses.RandomShort left need) = false
is_reading_answer tells_unseen tells_head statuses.NotAStore = true
is_reading_answer tells_unseen tells_head (statuses.Damaged at) = true
is_reading_answer tells_unseen tells_head statuses.WrongKey = true
is_reading_answer tells_unseen tells_head (statuses.Tampered batch at) = true
is_reading_answer tells_unseen tells_head statuses.OutOfMemory = true
is_reading_answer tells_unseen tells_head statuses.NotBlank = false
is_reading_answer tells_unseen tells_head (statuses.NoHolder known) = true
is_reading_answer tells_unseen tells_head statuses.Unseen = tells_unseen
is_reading_answer tells_unseen tells_head statuses.NeedsUpgrade = false
is_reading_answer tells_unseen tells_head statuses.AlreadyNew = false
is_reading_answer tells_unseen tells_head (statuses.Behind have want) = tells_head
is_reading_answer tells_unseen tells_head (statuses.Forked batches) = tells_head
is_reading_answer tells_unseen tells_head statuses.BadProof = false

-- how it ends before it reads the disk
abbrev pub is_before_read : Status → Bool
is_before_read (statuses.BadScript line) = true
is_before_read statuses.ReadFault = true
is_before_read _ = false

-- how it ends where it reads the disk and has nothing to print
abbrev pub is_unprinted : Bool → Bool → Status → Bool
is_unprinted tells_unseen tells_head statuses.Done = false
is_unprinted tells_unseen tells_head statuses.WriteFault = false
is_unprinted tells_unseen tells_head statuses.ReadFault = false
is_unprinted tells_unseen tells_head (statuses.BadScript line) = false
is_unprinted tells_unseen tells_head status = is_reading_answer tells_unseen tells_head status
