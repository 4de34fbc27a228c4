-- How `run` ends where its lines met a fault.
use Rattle.std.proofs.Common.{◌≡◌, ◌≢◌, ◌+◌, ◌<◌, ℕ, Bool, true, Option, None, Err, false, ap, arith, refl, subst}
use Rattle.std.specs.Prelude.{IsTrue}
use Rattle.std.proofs.lemmas.Bool.{false≢true, ne_eqb}
use Rattle.cli_running.specs.Running.{is_after_opening, is_before_opening, is_run_answer}
use Rattle.cli_sessions.specs.Opening.{Judges}
use Rattle.cli_sessions.specs.Sessions.{script_status}
use Rattle.cli_sessions.specs.Script.{NumbersBad, ReadsByCount, WritesByCount}
use Rattle.cli_sessions.specs.declared.script.ScriptFault.{ScriptFault}
use Rattle.cli_sessions.specs.declared.script.ScriptFault.TheVariants.{BadLine, ReadFault, WriteFault, OutOfMemory, Applying}
use Rattle.cli_base.specs.declared.status.Status.{Status}
use Rattle.cli_base.specs.declared.status.Status.TheVariants as statuses
use Rattle.log_visits.specs.Judging.{Failure}
use Rattle.store_owner.specs.declared.apply_fault.ApplyFault.TheVariants as faults

pub faulted_answers : (fault : ScriptFault) → IsTrue (is_run_answer (script_status fault))
faulted_answers (BadLine line) = refl
faulted_answers ReadFault = refl
faulted_answers WriteFault = refl
faulted_answers OutOfMemory = refl
faulted_answers (Applying faults.RandomFault) = refl
faulted_answers (Applying (faults.RandomShort given need)) = refl
faulted_answers (Applying faults.DiskFault) = refl
faulted_answers (Applying faults.Closed) = refl
faulted_answers (Applying faults.OutOfMemory) = refl

pub faulted_judges : (fault : ScriptFault) (verdict : Option Failure) → verdict ≡ None → Judges (script_status fault) verdict
faulted_judges (BadLine line) verdict none = none
faulted_judges ReadFault verdict none = tt
faulted_judges WriteFault verdict none = none
faulted_judges OutOfMemory verdict none = tt
faulted_judges (Applying faults.RandomFault) verdict none = none
faulted_judges (Applying (faults.RandomShort given need)) verdict none = none
faulted_judges (Applying faults.DiskFault) verdict none = tt
faulted_judges (Applying faults.Closed) verdict none = tt
faulted_judges (Applying faults.OutOfMemory) verdict none = tt

-- a bad line behind the first isn't the first
pub faulted_behind : (fault : ScriptFault) (given asked : ℕ) → given ≡ 1 → NumbersBad (Err fault) (given + asked + 1) → is_before_opening (script_status fault) ≡ false
faulted_behind (BadLine line) given asked first number = ne_eqb line 1 (λ is. omega (arith, number, first, is))
faulted_behind ReadFault given asked first number = refl
faulted_behind WriteFault given asked first number = refl
faulted_behind OutOfMemory given asked first number = refl
faulted_behind (Applying faults.RandomFault) given asked first number = refl
faulted_behind (Applying (faults.RandomShort had need)) given asked first number = refl
faulted_behind (Applying faults.DiskFault) given asked first number = refl
faulted_behind (Applying faults.Closed) given asked first number = refl
faulted_behind (Applying faults.OutOfMemory) given asked first number = refl

pub after_no_disk_fault : (status : Status) → IsTrue (is_after_opening status) → status ≢ statuses.DiskFault
after_no_disk_fault status after is = false≢true (subst (λ s. IsTrue (is_after_opening s)) is after)

abbrev is_done : Status → Bool
is_done statuses.Done = true
is_done _ = false

abbrev is_read_fault : Status → Bool
is_read_fault statuses.ReadFault = true
is_read_fault _ = false

abbrev is_write_fault : Status → Bool
is_write_fault statuses.WriteFault = true
is_write_fault _ = false

-- lines that met a fault aren't done
pub faulted_undone : {X : Type 0} (fault : ScriptFault) → script_status fault ≡ statuses.Done → X
faulted_undone (BadLine line) is = absurd (false≢true (ap is_done is))
faulted_undone ReadFault is = absurd (false≢true (ap is_done is))
faulted_undone WriteFault is = absurd (false≢true (ap is_done is))
faulted_undone OutOfMemory is = absurd (false≢true (ap is_done is))
faulted_undone (Applying faults.RandomFault) is = absurd (false≢true (ap is_done is))
faulted_undone (Applying (faults.RandomShort had need)) is = absurd (false≢true (ap is_done is))
faulted_undone (Applying faults.DiskFault) is = absurd (false≢true (ap is_done is))
faulted_undone (Applying faults.Closed) is = absurd (false≢true (ap is_done is))
faulted_undone (Applying faults.OutOfMemory) is = absurd (false≢true (ap is_done is))

-- and need no upgrade
pub faulted_needs_none : {X : Type 0} (fault : ScriptFault) → script_status fault ≡ statuses.NeedsUpgrade → X
faulted_needs_none (BadLine line) is = absurd cc
faulted_needs_none ReadFault is = absurd cc
faulted_needs_none WriteFault is = absurd cc
faulted_needs_none OutOfMemory is = absurd cc
faulted_needs_none (Applying faults.RandomFault) is = absurd cc
faulted_needs_none (Applying (faults.RandomShort had need)) is = absurd cc
faulted_needs_none (Applying faults.DiskFault) is = absurd cc
faulted_needs_none (Applying faults.Closed) is = absurd cc
faulted_needs_none (Applying faults.OutOfMemory) is = absurd cc

-- the input's count rose where its fault is told
pub faulted_reads : (fault : ScriptFault) (old new : ℕ) → ReadsByCount {U = Unit {0}} (Err fault) old new → script_status fault ≡ statuses.ReadFault → old < new
faulted_reads (BadLine line) old new counts is = absurd (false≢true (ap is_read_fault is))
faulted_reads ReadFault old new counts is = counts
faulted_reads WriteFault old new counts is = absurd (false≢true (ap is_read_fault is))
faulted_reads OutOfMemory old new counts is = absurd (false≢true (ap is_read_fault is))
faulted_reads (Applying faults.RandomFault) old new counts is = absurd (false≢true (ap is_read_fault is))
faulted_reads (Applying (faults.RandomShort had need)) old new counts is = absurd (false≢true (ap is_read_fault is))
faulted_reads (Applying faults.DiskFault) old new counts is = absurd (false≢true (ap is_read_fault is))
faulted_reads (Applying faults.Closed) old new counts is = absurd (false≢true (ap is_read_fault is))
faulted_reads (Applying faults.OutOfMemory) old new counts is = absurd (false≢true (ap is_read_fault is))

-- and the output's where its fault is
pub faulted_writes : (fault : ScriptFault) (old new : ℕ) → WritesByCount {U = Unit {0}} (Err fault) old new → script_status fault ≡ statuses.WriteFault → old < new
faulted_writes (BadLine line) old new counts is = absurd (false≢true (ap is_write_fault is))
faulted_writes ReadFault old new counts is = absurd (false≢true (ap is_write_fault is))
faulted_writes WriteFault old new counts is = counts
faulted_writes OutOfMemory old new counts is = absurd (false≢true (ap is_write_fault is))
faulted_writes (Applying faults.RandomFault) old new counts is = absurd (false≢true (ap is_write_fault is))
faulted_writes (Applying (faults.RandomShort had need)) old new counts is = absurd (false≢true (ap is_write_fault is))
faulted_writes (Applying faults.DiskFault) old new counts is = absurd (false≢true (ap is_write_fault is))
faulted_writes (Applying faults.Closed) old new counts is = absurd (false≢true (ap is_write_fault is))
faulted_writes (Applying faults.OutOfMemory) old new counts is = absurd (false≢true (ap is_write_fault is))
