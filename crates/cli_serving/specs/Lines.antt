-- The lines of `serve` behind the first, and how it may end. This project's own, docs/PROGRAM.md, "The program".
use Rattle.std.specs.Prelude.{◌≡◌, ◌≤◌, ◌⊎◌, ◌+◌, ◌++◌, ℕ, List, [], ◌∷◌, length, map, Option, Some, None, Result, Ok, Err}
use Rattle.cry_base.specs.Sets.{In}
use Rattle.script_text.specs.Cutting.{IsOneLine}
use Rattle.script_text.specs.Seats.{Turn, turn_in}
use Rattle.script_text.specs.Seats.Turn.{ToOwner}
use Rattle.script_text.specs.Tasks.{Task}
use Rattle.cli_base.specs.Lines.{AreOfLines, InputLine, input_limit, lines_of}
use Rattle.cli_base.specs.Lines.InputLine.{Whole, TooLong}
use Rattle.cli_base.specs.Reading.{reading_status}
use Rattle.cli_base.specs.declared.status.Status.{Status}
use Rattle.cli_base.specs.declared.status.Status.TheVariants as statuses
use Rattle.cli_running.specs.Running.{lines_typed}
use Rattle.cli_sessions.specs.Sessions.{script_status}
use Rattle.cli_serving.specs.declared.serve_fault.ServeFault.{ServeFault}
use Rattle.cli_serving.specs.declared.serve_fault.ServeFault.TheVariants as serve

-- a line is bad that is none of `serve`, or goes past the limit
abbrev pub IsBadTurn : List InputLine → Type 0
IsBadTurn [] = ⊥
IsBadTurn (Whole line ∷ lines) = turn_in line ≡ None
IsBadTurn (TooLong ∷ lines) = Unit {0}

-- some line among them is bad
abbrev pub HasBadTurn : List InputLine → Type 0
HasBadTurn lines = (front rest : List InputLine) × (lines ≡ front ++ rest) × IsBadTurn rest

-- the first of these lines ask for this, one for one, and then come the others
pub record AskTurns (turns : List Turn) (before after : List InputLine) : Type 0 where
  pub lines : List (List ℕ)
  pub before_is : before ≡ map Whole lines ++ after
  pub turns_are : map turn_in lines ≡ map Some turns

-- no line among them is the owner's
abbrev pub AskNoOwner : List Turn → Type 0
AskNoOwner turns = (task : Task) → In (ToOwner task) turns → ⊥

-- Which lines were begun: at Done all; before a bad one those before it; else the first ones. The last of them may be the one in which
-- the lines ended.
abbrev pub BeginsLines : Status → List Turn → List InputLine → Type 0
BeginsLines statuses.Done turns lines = AskTurns turns lines []
BeginsLines (statuses.BadScript line) turns lines = (line ≡ 1) × (turns ≡ [])
    ⊎ ((line ≡ length turns + 2) × (rest : List InputLine) × AskTurns turns lines rest × IsBadTurn rest)
BeginsLines statuses.NeedsUpgrade turns lines = turns ≡ []
BeginsLines _ turns lines = (rest : List InputLine) × AskTurns turns lines rest

-- the number of the line at which it ended, where so many behind the first were begun. None where it read to the end, or nothing is said
abbrev pub turn_ended : Status → ℕ → Option ℕ
turn_ended statuses.Done begun = None
turn_ended statuses.ReadFault begun = None
turn_ended statuses.OutOfMemory begun = None
turn_ended (statuses.BadScript line) begun = Some line
turn_ended _ begun = Some (begun + 1)

-- Where the input failed: so many of these lines were begun, and no other had ended in what was taken of the input.
pub record ReadsAll (turns : List Turn) (lines : List InputLine) (typed left : List ℕ) : Type 0 where
  pub given : List ℕ
  pub front : List ℕ
  pub room : ℕ
  pub taken : typed ≡ given ++ (front ++ left)
  pub of_lines : AreOfLines (length turns) given
  pub one : IsOneLine front
  pub within : length front ≤ room
  pub asks : AskTurns turns lines (lines_of room (front ++ left))

-- so it is with the lines behind the first; or that one had not ended, and none was begun
abbrev pub ReadsAllTyped : List Turn → List ℕ → List ℕ → Type 0
ReadsAllTyped turns typed left =
    ((turns ≡ []) × (front : List ℕ) × IsOneLine front × (length front ≤ input_limit) × (typed ≡ front ++ left))
    ⊎ ((first behind : List ℕ) × AreOfLines 1 first × (typed ≡ first ++ behind) × ReadsAll turns (lines_typed typed) behind left)

-- how the program ends where these lines do
abbrev pub serve_status : Result (Unit {0}) ServeFault → Status
serve_status (Ok _) = statuses.Done
serve_status (Err (serve.Script fault)) = script_status fault
serve_status (Err (serve.Reading fault)) = reading_status fault
