-- What a client's call answers. This project's own, docs/FORMAT.md, "Reading".
use Rattle.std.specs.Prelude.{◌≡◌, Result, Ok, Err}
use Rattle.commit_journal.specs.declared.fault.OpenFault.{OpenFault}
use Rattle.commit_journal.specs.declared.fault.OpenFault.TheVariants as opening
use Rattle.commit_journal.specs.Answering.{Fault, NotAStore, WrongKey, Damaged, Tampered}
use Rattle.log_visits.specs.declared.fault.ClientFault.{ClientFault}
use Rattle.log_visits.specs.declared.fault.ClientFault.TheVariants as faults
use Rattle.log_visits.specs.Judging.{Failure, OfBytes, NoHolder, Unseen}

-- a fault of the log is the client's
abbrev pub client_fault : OpenFault → ClientFault
client_fault opening.NotAStore = faults.NotAStore
client_fault opening.WrongKey = faults.WrongKey
client_fault (opening.Damaged at) = faults.Damaged at
client_fault (opening.Tampered batch at) = faults.Tampered batch at
client_fault opening.DiskFault = faults.DiskFault
client_fault opening.OutOfMemory = faults.OutOfMemory

-- the fault is the one that is wanted of bytes, and never that of a holder or a path. A disk that fails and want of memory may
-- come at any time
abbrev pub IsFault : {Y : Type 0} → ClientFault → Result Y Fault → Type 0
IsFault faults.NotAStore wanted = wanted ≡ Err NotAStore
IsFault faults.WrongKey wanted = wanted ≡ Err WrongKey
IsFault (faults.Damaged at) wanted = wanted ≡ Err (Damaged at)
IsFault (faults.Tampered batch at) wanted = wanted ≡ Err (Tampered batch at)
IsFault (faults.NoHolder known) wanted = ⊥
IsFault faults.Unseen wanted = ⊥
IsFault faults.DiskFault wanted = Unit {0}
IsFault faults.OutOfMemory wanted = Unit {0}

-- a fault that isn't that of a holder or a path
abbrev pub IsOfBytes : ClientFault → Type 0
IsOfBytes faults.NotAStore = Unit {0}
IsOfBytes faults.WrongKey = Unit {0}
IsOfBytes (faults.Damaged at) = Unit {0}
IsOfBytes (faults.Tampered batch at) = Unit {0}
IsOfBytes (faults.NoHolder known) = ⊥
IsOfBytes faults.Unseen = ⊥
IsOfBytes faults.DiskFault = Unit {0}
IsOfBytes faults.OutOfMemory = Unit {0}

-- the answer, seen by view, is the one that is wanted
abbrev pub Answers : {X Y : Type 0} → (X → Y) → Result X ClientFault → Result Y Fault → Type 0
Answers view (Ok x) wanted = wanted ≡ Ok (view x)
Answers view (Err fault) wanted = IsFault fault wanted

-- the fault is the failure that is wanted. A disk that fails and want of memory may come at any time
abbrev pub IsFailure : {Y : Type 0} → ClientFault → Result Y Failure → Type 0
IsFailure faults.NotAStore wanted = wanted ≡ Err (OfBytes NotAStore)
IsFailure faults.WrongKey wanted = wanted ≡ Err (OfBytes WrongKey)
IsFailure (faults.Damaged at) wanted = wanted ≡ Err (OfBytes (Damaged at))
IsFailure (faults.Tampered batch at) wanted = wanted ≡ Err (OfBytes (Tampered batch at))
IsFailure (faults.NoHolder known) wanted = wanted ≡ Err (NoHolder known)
IsFailure faults.Unseen wanted = wanted ≡ Err Unseen
IsFailure faults.DiskFault wanted = Unit {0}
IsFailure faults.OutOfMemory wanted = Unit {0}

-- the answer, seen by view, is the one that is wanted of whoever reads
abbrev pub AnswersAs : {X Y : Type 0} → (X → Y) → Result X ClientFault → Result Y Failure → Type 0
AnswersAs view (Ok x) wanted = wanted ≡ Ok (view x)
AnswersAs view (Err fault) wanted = IsFailure fault wanted

-- the answer is one that stands for the one that is wanted
abbrev pub AnswersBy : {X Y : Type 0} → (X → Y → Type 0) → Result X ClientFault → Result Y Fault → Type 0
AnswersBy {Y = Y} stands_for (Ok x) wanted = (y : Y) × (wanted ≡ Ok y) × stands_for x y
AnswersBy stands_for (Err fault) wanted = IsFault fault wanted

-- the answer is one that stands for the one that is wanted of whoever reads
abbrev pub AnswersAsBy : {X Y : Type 0} → (X → Y → Type 0) → Result X ClientFault → Result Y Failure → Type 0
AnswersAsBy {Y = Y} stands_for (Ok x) wanted = (y : Y) × (wanted ≡ Ok y) × stands_for x y
AnswersAsBy stands_for (Err fault) wanted = IsFailure fault wanted
