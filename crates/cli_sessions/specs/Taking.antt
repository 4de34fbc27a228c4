-- How much `run` takes of its input. This project's own, docs/PROGRAM.md, "Lines".
use Rattle.std.specs.Prelude.{◌≡◌, ◌≤◌, ◌+◌, ℕ, List, [], ◌++◌, length, Option, Some, None, Result, Ok, Err}
use Rattle.cli_base.specs.Input.{TakesLines}
use Rattle.cli_base.specs.Lines.{AreOfLines, LineState, bytes_ahead, read_ahead}
use Rattle.cli_sessions.specs.declared.script.ScriptFault.{ScriptFault}
use Rattle.cli_sessions.specs.declared.script.ScriptFault.TheVariants as script
use Rattle.script_text.specs.declared.tasks.LineTask.{LineTask}

-- the bytes of no more than so many lines were taken of those that were to come
abbrev pub AreTaken : ℕ → LineState → LineState → List ℕ → List ℕ → Type 0
AreTaken lines old new before after = (front : List ℕ) × AreOfLines lines front × (bytes_ahead old before ≡ front ++ bytes_ahead new after)

-- little is held behind the last line
abbrev pub HoldsFew : LineState → Type 0
HoldsFew state = (state.line ≡ []) × (length state.piece ≤ read_ahead)

-- all bytes are still to come
abbrev pub TakesNothing : LineState → LineState → List ℕ → List ℕ → Type 0
TakesNothing old new before left = (bytes_ahead new left ≡ bytes_ahead old before) × (new.room ≡ old.room)

-- one line was taken, and little was read behind it, whether it gave something or is bad; and none where the input failed
abbrev pub TakesOne : {U : Type 0} → Result U ScriptFault → LineState → LineState → List ℕ → List ℕ → Type 0
TakesOne (Ok given) old new before left = AreTaken 1 old new before left × HoldsFew new
TakesOne (Err (script.BadLine line)) old new before left = TakesLines 1 (bytes_ahead old before) left
TakesOne (Err script.ReadFault) old new before left = TakesNothing old new before left
TakesOne (Err fault) old new before left = Unit {0}

-- so it is with the next line's, if there was one
abbrev pub TakesTask : Result (Option LineTask) ScriptFault → LineState → LineState → List ℕ → List ℕ → Type 0
TakesTask (Ok None) old new before left = Unit {0}
TakesTask (Ok (Some task)) old new before left = TakesOne (Ok task) old new before left
TakesTask (Err fault) old new before left = TakesOne {U = LineTask} (Err fault) old new before left

-- what was taken where so many lines were answered or begun: these alone, where the input failed behind them; the bad line is the one
-- behind them, and another fault met the last of them
abbrev pub TakenBy : Result (Unit {0}) ScriptFault → ℕ → LineState → LineState → List ℕ → List ℕ → Type 0
TakenBy (Err (script.BadLine line)) asked old new before left = TakesLines (asked + 1) (bytes_ahead old before) left
TakenBy (Err script.ReadFault) asked old new before left = AreTaken asked old new before left
TakenBy (Err script.WriteFault) asked old new before left = TakesLines asked (bytes_ahead old before) left
TakenBy (Err (script.Applying fault)) asked old new before left = TakesLines asked (bytes_ahead old before) left
TakenBy result asked old new before left = Unit {0}
