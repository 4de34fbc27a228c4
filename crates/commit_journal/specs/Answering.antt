-- What a call that reads a store answers. This project's own, docs/FORMAT.md, "Reading".
use Rattle.std.specs.Prelude.{◌≡◌, ℕ, Result, Ok, Err}
use Rattle.commit_journal.specs.declared.fault.OpenFault.{OpenFault}
use Rattle.commit_journal.specs.declared.fault.OpenFault.TheVariants as faults

-- what can be wrong with the bytes of a store
pub data Fault : Type 0 where
  NotAStore : Fault
  WrongKey : Fault
  Damaged : ℕ → Fault
  Tampered : ℕ → ℕ → Fault

-- goes on where nothing was wrong
unfoldable pub and_then : {A B : Type 0} → Result A Fault → (A → Result B Fault) → Result B Fault
and_then (Ok x) f = f x
and_then (Err fault) f = Err fault

-- the fault is the one that is wanted. A disk that fails and want of memory may come at any time
abbrev pub IsFault : {Y : Type 0} → OpenFault → Result Y Fault → Type 0
IsFault faults.NotAStore wanted = wanted ≡ Err NotAStore
IsFault faults.WrongKey wanted = wanted ≡ Err WrongKey
IsFault (faults.Damaged at) wanted = wanted ≡ Err (Damaged at)
IsFault (faults.Tampered batch at) wanted = wanted ≡ Err (Tampered batch at)
IsFault faults.DiskFault wanted = Unit {0}
IsFault faults.OutOfMemory wanted = Unit {0}

-- the answer, seen by view, is the one that is wanted
abbrev pub Answers : {X Y : Type 0} → (X → Y) → Result X OpenFault → Result Y Fault → Type 0
Answers view (Ok x) wanted = wanted ≡ Ok (view x)
Answers view (Err fault) wanted = IsFault fault wanted
