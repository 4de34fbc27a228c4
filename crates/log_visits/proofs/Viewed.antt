-- The fault of the first step that fails.
use Rattle.std.proofs.Common.{Result, refl}
use Rattle.log_visits.specs.declared.fault.ClientFault.{ClientFault}
use Rattle.log_visits.specs.declared.fault.ClientFault.TheVariants as faults
use Rattle.log_visits.specs.Answering.{IsFault, IsOfBytes}
use Rattle.commit_journal.specs.Answering.{Fault, and_then}

-- a fault ends what would follow
pub fault_first : {A B : Type 0} (fault : ClientFault) (read : Result A Fault) (f : A → Result B Fault) → IsFault fault read → IsFault fault (and_then read f)
unfolding and_then
fault_first faults.NotAStore read f is = rw is refl
fault_first faults.WrongKey read f is = rw is refl
fault_first (faults.Damaged at) read f is = rw is refl
fault_first (faults.Tampered batch at) read f is = rw is refl
fault_first (faults.NoHolder known) read f is = absurd is
fault_first faults.Unseen read f is = absurd is
fault_first faults.DiskFault read f is = tt
fault_first faults.OutOfMemory read f is = tt

-- what is wanted of bytes is no fault of a holder or a path
pub of_bytes_alone : {A : Type 0} (fault : ClientFault) (wanted : Result A Fault) → IsFault fault wanted → IsOfBytes fault
of_bytes_alone faults.NotAStore wanted is = tt
of_bytes_alone faults.WrongKey wanted is = tt
of_bytes_alone (faults.Damaged at) wanted is = tt
of_bytes_alone (faults.Tampered batch at) wanted is = tt
of_bytes_alone (faults.NoHolder known) wanted is = is
of_bytes_alone faults.Unseen wanted is = is
of_bytes_alone faults.DiskFault wanted is = tt
of_bytes_alone faults.OutOfMemory wanted is = tt
