-- What one line of `serve` does, whoever it asks. This project's own, docs/PROGRAM.md, "Lines".
use Rattle.std.specs.Prelude.{◌≡◌, ◌<◌, ◌≤◌, ℕ, List, Option, Result, Ok, Err}
use Rattle.cry_base.specs.Requests.{Request}
use Rattle.cry_base.specs.declared.commands.Reply.{Reply}
use Rattle.cry_io.specs.Reading.{IsOnlyRead}
use Rattle.cry_io.specs.declared.disk.Disk as disk
use Rattle.log_visits.specs.declared.fault.ClientFault.TheVariants as client
use Rattle.read_steps.specs.Steps.{SessionView}
use Rattle.script_text.specs.Seats.{Turn}
use Rattle.script_text.specs.Seats.Turn.{ToOwner, ToSeat}
use Rattle.script_text.specs.Tasks.{Task}
use Rattle.store_owner.specs.declared.apply_fault.ApplyFault.{ApplyFault}
use Rattle.cli_sessions.specs.Script.{AnswersLine}
use Rattle.cli_sessions.specs.declared.script.ScriptFault.TheVariants as script
use Rattle.cli_serving.specs.SeatAnswers.{SeatAnswered}
use Rattle.cli_serving.specs.declared.serve_fault.ServeFault.{ServeFault}
use Rattle.cli_serving.specs.declared.serve_fault.ServeFault.TheVariants as serve

-- the disk was only read, and the owner and the random source stay as they were
pub record OnlyReads {O R D : Type 0} (disks : disk.Ghosts D) (x y : O × R × D) : Type 0 where
  pub owner : y.0 ≡ x.0
  pub random : y.1 ≡ x.1
  pub disk : IsOnlyRead disks x.2 y.2
  pub counts : disks.faults x.2 ≤ disks.faults y.2

-- a disk fault of a session's reading comes only where the disk's faults rose in it
abbrev pub FailsByCount : Result (Unit {0}) ServeFault → ℕ → ℕ → Type 0
FailsByCount (Err (serve.Reading client.DiskFault)) old new = old < new
FailsByCount _ old new = Unit {0}

-- the owner answered a line, as in `run`
abbrev pub OwnerAnswered : {X : Type 0} → (X → Request → Reply → X → Type 0) → (X → Request → ApplyFault → X → Type 0)
    → (X → ℕ → List Request → Type 0) → Result (Unit {0}) ServeFault → X → Task → X → Option (List ℕ) → Option (List ℕ) → Type 0
OwnerAnswered Step Fails Stand (Ok _) x task y before after = AnswersLine Step Fails Stand (Ok tt) x task y before after
OwnerAnswered Step Fails Stand (Err (serve.Script fault)) x task y before after =
    AnswersLine Step Fails Stand (Err fault) x task y before after
OwnerAnswered Step Fails Stand (Err (serve.Reading met)) x task y before after = ⊥

-- Whoever a line asks, it was answered, or the lines ended in it. The owner's changes no session, and a session's only reads.
abbrev pub TurnAnswered : {X : Type 0} → (X → Request → Reply → X → Type 0) → (X → Request → ApplyFault → X → Type 0)
    → (X → ℕ → List Request → Type 0) → (X → X → Type 0) → (X → Option (List ℕ)) → (X → ℕ) → Result (Unit {0}) ServeFault → X → Turn
    → List SessionView → List SessionView → X → Option (List ℕ) → Option (List ℕ) → Type 0
TurnAnswered Step Fails Stand Reads shown faults result x (ToOwner task) old new y before after =
    (new ≡ old) × OwnerAnswered Step Fails Stand result x task y before after
TurnAnswered Step Fails Stand Reads shown faults result x (ToSeat ask) old new y before after =
    Reads x y × SeatAnswered result (shown x) ask old new before after × FailsByCount result (faults x) (faults y)

-- the count of the input's faults never falls, and ReadFault comes only where it rose
abbrev pub ServeReadsByCount : Result (Unit {0}) ServeFault → ℕ → ℕ → Type 0
ServeReadsByCount (Err (serve.Script script.ReadFault)) old new = old < new
ServeReadsByCount _ old new = old ≤ new

-- and WriteFault only where that of the output rose
abbrev pub ServeWritesByCount : Result (Unit {0}) ServeFault → ℕ → ℕ → Type 0
ServeWritesByCount (Err (serve.Script script.WriteFault)) old new = old < new
ServeWritesByCount _ old new = old ≤ new

-- a command may come, unless the last one met a fault
abbrev pub StaysServing : Type 0 → Result (Unit {0}) ServeFault → Type 0
StaysServing Ready (Err (serve.Script (script.Applying fault))) = Unit {0}
StaysServing Ready _ = Ready
