-- Which lines of `serve` are begun, and what is taken of the input. This project's own, docs/PROGRAM.md, "Lines".
use Rattle.std.specs.Prelude.{◌≡◌, ◌<◌, ◌+◌, ℕ, List, [], ◌∷◌, length, Option, Some, None, Result, Ok, Err}
use Rattle.cry_base.specs.Requests.{Request}
use Rattle.cry_base.specs.declared.commands.Reply.{Reply}
use Rattle.cry_io.specs.Told.{WhereBothTold}
use Rattle.log_visits.specs.declared.fault.ClientFault.TheVariants as client
use Rattle.script_text.specs.Seats.{Turn, turn_in, turn_of}
use Rattle.script_text.specs.declared.seats.TurnLine.{TurnLine}
use Rattle.store_owner.specs.declared.apply_fault.ApplyFault.{ApplyFault}
use Rattle.cli_base.specs.Input.{TakesLines}
use Rattle.cli_base.specs.Lines.{InputLine, LineState, bytes_ahead, lines_ahead}
use Rattle.cli_base.specs.Lines.InputLine.{Whole}
use Rattle.cli_sessions.specs.Taking.{TakenBy, TakesOne}
use Rattle.cli_sessions.specs.declared.script.ScriptFault.{ScriptFault}
use Rattle.cli_sessions.specs.declared.script.ScriptFault.TheVariants as script
use Rattle.cli_serving.specs.Lines.{AskTurns, IsBadTurn}
use Rattle.cli_serving.specs.Went.{ServeWent}
use Rattle.cli_serving.specs.declared.serve_fault.ServeFault.{ServeFault}
use Rattle.cli_serving.specs.declared.serve_fault.ServeFault.TheVariants as serve

-- ---- the next line

-- what the next line asks for is given, or there is no line more
abbrev pub GivesTurn : Result (Option TurnLine) ScriptFault → List InputLine → List InputLine → Type 0
GivesTurn (Ok (Some turn)) before after = (line : List ℕ) × (before ≡ Whole line ∷ after) × (turn_in line ≡ Some (turn_of turn))
GivesTurn (Ok None) before after = (before ≡ []) × (after ≡ [])
GivesTurn (Err (script.BadLine line)) before after = IsBadTurn before
GivesTurn (Err script.ReadFault) before after = after ≡ before
GivesTurn (Err script.OutOfMemory) before after = Unit {0}
GivesTurn (Err _) before after = ⊥

-- only a line that asks for something is counted, and takes some of the room; a bad line has the next number
abbrev pub CountsTurn : Result (Option TurnLine) ScriptFault → LineState → LineState → Type 0
CountsTurn (Ok (Some turn)) old new = (new.given ≡ old.given + 1) × (new.room < old.room)
CountsTurn (Err (script.BadLine line)) old new = line ≡ old.given + 1
CountsTurn _ old new = Unit {0}

-- the bytes of the next line are taken, if there is one
abbrev pub TakesTurn : Result (Option TurnLine) ScriptFault → LineState → LineState → List ℕ → List ℕ → Type 0
TakesTurn (Ok None) old new before left = Unit {0}
TakesTurn (Ok (Some turn)) old new before left = TakesOne (Ok turn) old new before left
TakesTurn (Err fault) old new before left = TakesOne {U = TurnLine} (Err fault) old new before left

-- ---- all lines

-- which lines were begun: all at the end; those before the bad one; those that were given before a fault
abbrev pub TakesTurns : Result (Unit {0}) ServeFault → List Turn → List InputLine → List InputLine → Type 0
TakesTurns (Ok _) turns before after = AskTurns turns before [] × (after ≡ [])
TakesTurns (Err (serve.Script (script.BadLine line))) turns before after =
    (rest : List InputLine) × AskTurns turns before rest × IsBadTurn rest
TakesTurns (Err (serve.Script script.OutOfMemory)) turns before after = (rest : List InputLine) × AskTurns turns before rest
TakesTurns (Err _) turns before after = AskTurns turns before after

-- the line that is bad is the one behind those that were begun
abbrev pub NumbersBadTurn : Result (Unit {0}) ServeFault → ℕ → Type 0
NumbersBadTurn (Err (serve.Script (script.BadLine line))) next = line ≡ next
NumbersBadTurn _ next = Unit {0}

-- what was taken where so many lines were begun
abbrev pub TakenByTurns : Result (Unit {0}) ServeFault → ℕ → LineState → LineState → List ℕ → List ℕ → Type 0
TakenByTurns (Ok _) begun old new before left = TakenBy (Ok tt) begun old new before left
TakenByTurns (Err (serve.Script fault)) begun old new before left = TakenBy (Err fault) begun old new before left
TakenByTurns (Err (serve.Reading met)) begun old new before left = TakesLines begun (bytes_ahead old before) left

-- a disk fault of a session's reading comes only where the disk's faults rose in it: of the lines that ended so
abbrev pub CountsReading : {X : Type 0} (Step : X → Request → Reply → X → Type 0) (Fails : X → Request → ApplyFault → X → Type 0)
    (Stand : X → ℕ → List Request → Type 0) (Reads : X → X → Type 0) (shown : X → Option (List ℕ)) (faults : X → ℕ)
    (result : Result (Unit {0}) ServeFault) (start end : X) (turns : List Turn) (asked : List Request) (before after : Option (List ℕ))
    → ServeWent Step Fails Stand Reads shown result start end turns asked before after → Type 0
CountsReading Step Fails Stand Reads shown faults (Err (serve.Reading client.DiskFault)) start end turns asked before after went =
    faults went.x < faults end
CountsReading Step Fails Stand Reads shown faults _ start end turns asked before after went = Unit {0}

-- What was begun, asked and answered, what was taken of the input, and what was printed.
pub record ServesRan {X : Type 0} (Step : X → Request → Reply → X → Type 0) (Fails : X → Request → ApplyFault → X → Type 0)
    (Stand : X → ℕ → List Request → Type 0) (Reads : X → X → Type 0) (shown : X → Option (List ℕ)) (faults : X → ℕ)
    (result : Result (Unit {0}) ServeFault) (start end : X) (old new : LineState)
    (left_before left_after written_before written_after : Option (List ℕ)) : Type 0 where
  pub turns : List Turn
  pub asked : List Request
  pub went : ServeWent Step Fails Stand Reads shown result start end turns asked written_before written_after
  pub failed : CountsReading Step Fails Stand Reads shown faults result start end turns asked written_before written_after went
  pub lines : WhereBothTold left_before left_after
      (λ before after. TakesTurns result turns (lines_ahead old before) (lines_ahead new after))
  pub number : NumbersBadTurn result (old.given + length turns + 1)
  pub taken : WhereBothTold left_before left_after (TakenByTurns result (length turns) old new)
