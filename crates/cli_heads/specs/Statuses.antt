-- How a command ends that asks for a log's head, or tests a proof between two. This project's own, docs/PROGRAM.md, "Heads".
use Rattle.std.specs.Prelude.{Bool, true, false}
use Rattle.commit_journal.specs.Answering.{Fault, NotAStore, WrongKey, Damaged, Tampered}
use Rattle.commit_journal.specs.declared.fault.OpenFault.{OpenFault}
use Rattle.commit_journal.specs.declared.fault.OpenFault.TheVariants as faults
use Rattle.cli_base.specs.declared.status.Status.{Status}
use Rattle.cli_base.specs.declared.status.Status.TheVariants as statuses
use Rattle.cli_heads.specs.Asked.{Asked}
use Rattle.cli_heads.specs.Asked.Asked.{TheHead, TheProof}

-- it ends so, unless the disk failed or memory was wanting, which may come at any time
abbrev pub EndsAs : (Status → Type 0) → Status → Type 0
EndsAs May statuses.DiskFault = Unit {0}
EndsAs May statuses.OutOfMemory = Unit {0}
EndsAs May status = May status

-- where a test of the log fails
abbrev pub fault_status : Fault → Status
fault_status NotAStore = statuses.NotAStore
fault_status WrongKey = statuses.WrongKey
fault_status (Damaged at) = statuses.Damaged at
fault_status (Tampered batch at) = statuses.Tampered batch at

-- where its reading fails
abbrev pub log_status : OpenFault → Status
log_status faults.NotAStore = statuses.NotAStore
log_status faults.WrongKey = statuses.WrongKey
log_status (faults.Damaged at) = statuses.Damaged at
log_status (faults.Tampered batch at) = statuses.Tampered batch at
log_status faults.DiskFault = statuses.DiskFault
log_status faults.OutOfMemory = statuses.OutOfMemory

-- whether it may be told that the log has too few batches
abbrev pub tells_behind : Asked → Bool
tells_behind TheHead = false
tells_behind (TheProof batches) = true

-- how it may end
abbrev pub is_log_answer : Asked → Status → Bool
is_log_answer asked statuses.Done = true
is_log_answer asked statuses.Usage = false
is_log_answer asked (statuses.BadScript line) = false
is_log_answer asked statuses.ReadFault = false
is_log_answer asked statuses.WriteFault = true
is_log_answer asked statuses.DiskFault = true
is_log_answer asked statuses.RandomFault = false
is_log_answer asked (statuses.RandomShort left need) = false
is_log_answer asked statuses.NotAStore = true
is_log_answer asked (statuses.Damaged at) = true
is_log_answer asked statuses.WrongKey = false
is_log_answer asked (statuses.Tampered batch at) = true
is_log_answer asked statuses.OutOfMemory = true
is_log_answer asked statuses.NotBlank = false
is_log_answer asked (statuses.NoHolder known) = false
is_log_answer asked statuses.Unseen = false
is_log_answer asked statuses.NeedsUpgrade = false
is_log_answer asked statuses.AlreadyNew = false
is_log_answer asked (statuses.Behind have want) = tells_behind asked
is_log_answer asked (statuses.Forked batches) = false
is_log_answer asked statuses.BadProof = false

-- how a test of a head may end a command
abbrev pub is_test_answer : Status → Bool
is_test_answer statuses.Done = false
is_test_answer statuses.Usage = false
is_test_answer (statuses.BadScript line) = false
is_test_answer statuses.ReadFault = false
is_test_answer statuses.WriteFault = false
is_test_answer statuses.DiskFault = true
is_test_answer statuses.RandomFault = false
is_test_answer (statuses.RandomShort left need) = false
is_test_answer statuses.NotAStore = true
is_test_answer (statuses.Damaged at) = true
is_test_answer statuses.WrongKey = false
is_test_answer (statuses.Tampered batch at) = true
is_test_answer statuses.OutOfMemory = true
is_test_answer statuses.NotBlank = false
is_test_answer (statuses.NoHolder known) = false
is_test_answer statuses.Unseen = false
is_test_answer statuses.NeedsUpgrade = false
is_test_answer statuses.AlreadyNew = false
is_test_answer (statuses.Behind have want) = true
is_test_answer (statuses.Forked batches) = true
is_test_answer statuses.BadProof = false

-- how a test of a proof may end
abbrev pub is_check_answer : Status → Bool
is_check_answer statuses.Done = true
is_check_answer statuses.Usage = false
is_check_answer (statuses.BadScript line) = true
is_check_answer statuses.ReadFault = true
is_check_answer statuses.WriteFault = true
is_check_answer statuses.DiskFault = false
is_check_answer statuses.RandomFault = false
is_check_answer (statuses.RandomShort left need) = false
is_check_answer statuses.NotAStore = false
is_check_answer (statuses.Damaged at) = false
is_check_answer statuses.WrongKey = false
is_check_answer (statuses.Tampered batch at) = false
is_check_answer statuses.OutOfMemory = true
is_check_answer statuses.NotBlank = false
is_check_answer (statuses.NoHolder known) = false
is_check_answer statuses.Unseen = false
is_check_answer statuses.NeedsUpgrade = false
is_check_answer statuses.AlreadyNew = false
is_check_answer (statuses.Behind have want) = false
is_check_answer (statuses.Forked batches) = false
is_check_answer statuses.BadProof = true
