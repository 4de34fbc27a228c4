-- How the lines of `serve` went, and how they ended. This project's own, docs/PROGRAM.md, "Lines".
use Rattle.std.specs.Prelude.{◌≡◌, ◌⊎◌, ◌++◌, ℕ, true, false, List, [], ◌∷◌, Option, Result, Ok, Err, length, take}
use Rattle.cry_base.specs.Requests.{Request}
use Rattle.cry_base.specs.declared.commands.Reply.{Reply}
use Rattle.cry_io.specs.Told.{WhereBothTold}
use Rattle.read_steps.specs.Steps.{SessionView}
use Rattle.script_text.specs.Seats.{SeatAsk, Turn}
use Rattle.script_text.specs.Seats.Turn.{ToOwner, ToSeat}
use Rattle.script_text.specs.Tasks.{Task}
use Rattle.session_laws.specs.Seats.{PlainReply}
use Rattle.session_laws.specs.Serving.{spell_plain_reply}
use Rattle.store_owner.specs.declared.apply_fault.ApplyFault.{ApplyFault}
use Rattle.cli_sessions.specs.Script.{LineWent, PrintsReplies}
use Rattle.cli_sessions.specs.declared.script.ScriptFault.{ScriptFault}
use Rattle.cli_sessions.specs.declared.script.ScriptFault.TheVariants as script
use Rattle.cli_serving.specs.Seating.{FailsSeat, SeatWent}
use Rattle.cli_serving.specs.Turned.{Turned}
use Rattle.cli_serving.specs.declared.serve_fault.ServeFault.{ServeFault}
use Rattle.cli_serving.specs.declared.serve_fault.ServeFault.TheVariants as serve

-- a line of the owner's was answered to its end
abbrev pub LineDone : {X : Type 0} → (X → Request → Reply → X → Type 0) → (X → Request → ApplyFault → X → Type 0)
    → (X → ℕ → List Request → Type 0) → X → Task → List Request → List Reply → X → Type 0
LineDone Step Fails Stand x task block replies y = LineWent Step Fails Stand false (Ok tt) x task block replies y

-- all lines that were begun were done, and what was replied is printed
pub record AllDone {X : Type 0} (Step : X → Request → Reply → X → Type 0) (Fails : X → Request → ApplyFault → X → Type 0)
    (Stand : X → ℕ → List Request → Type 0) (Reads : X → X → Type 0) (shown : X → Option (List ℕ)) (start end : X)
    (turns : List Turn) (asked : List Request) (before after : Option (List ℕ)) : Type 0 where
  pub text : List ℕ
  pub sessions : List SessionView
  pub turned : Turned (LineDone Step Fails Stand) Reads shown start turns asked text sessions end
  pub printed : WhereBothTold before after (λ b a. a ≡ b ++ text)

-- the last one is a line of the owner's, of which the first commands were answered, and in which the lines ended
pub record InOwners {X : Type 0} (Step : X → Request → Reply → X → Type 0) (Fails : X → Request → ApplyFault → X → Type 0)
    (Stand : X → ℕ → List Request → Type 0) (Reads : X → X → Type 0) (shown : X → Option (List ℕ)) (met : ScriptFault) (start end : X)
    (turns : List Turn) (asked : List Request) (before after : Option (List ℕ)) : Type 0 where
  pub first : List Turn
  pub first_asked : List Request
  pub text : List ℕ
  pub sessions : List SessionView
  pub x : X
  pub turned : Turned (LineDone Step Fails Stand) Reads shown start first first_asked text sessions x
  pub task : Task
  pub block : List Request
  pub replies : List Reply
  pub last : LineWent Step Fails Stand true (Err met) x task block replies end
  pub turns_are : turns ≡ first ++ ToOwner task ∷ []
  pub asked_are : asked ≡ first_asked ++ take (length replies) block
  pub printed : WhereBothTold before after (λ b a. PrintsReplies (Err met) replies (b ++ text) a)

-- how a session's line ends the lines: of its reply a front was printed, or for want of memory none; or its reading met a fault
abbrev pub SeatEnds : Result (Unit {0}) ServeFault → Option (List ℕ) → SeatAsk → List SessionView → List ℕ → Option (List ℕ)
    → Option (List ℕ) → Type 0
SeatEnds (Err (serve.Script script.WriteFault)) told ask sessions text before after = (reply : PlainReply) × (later : List SessionView)
    × SeatWent told ask sessions reply later
    × WhereBothTold before after (λ b a. (n : ℕ) × (a ≡ b ++ (text ++ take n (spell_plain_reply reply))))
SeatEnds (Err (serve.Script script.OutOfMemory)) told ask sessions text before after = (reply : PlainReply) × (later : List SessionView)
    × SeatWent told ask sessions reply later × WhereBothTold before after (λ b a. a ≡ b ++ text)
SeatEnds (Err (serve.Reading met)) told ask sessions text before after = FailsSeat told ask sessions met
    × WhereBothTold before after (λ b a. a ≡ b ++ text)
SeatEnds _ told ask sessions text before after = ⊥

-- the last one is a session's, in which the lines ended
pub record InSeats {X : Type 0} (Step : X → Request → Reply → X → Type 0) (Fails : X → Request → ApplyFault → X → Type 0)
    (Stand : X → ℕ → List Request → Type 0) (Reads : X → X → Type 0) (shown : X → Option (List ℕ)) (result : Result (Unit {0}) ServeFault)
    (start end : X) (turns : List Turn) (asked : List Request) (before after : Option (List ℕ)) : Type 0 where
  pub first : List Turn
  pub text : List ℕ
  pub sessions : List SessionView
  pub x : X
  pub turned : Turned (LineDone Step Fails Stand) Reads shown start first asked text sessions x
  pub ask : SeatAsk
  pub ends : SeatEnds result (shown x) ask sessions text before after
  pub read : Reads x end
  pub turns_are : turns ≡ first ++ ToSeat ask ∷ []

-- What lines were begun, what the owner was asked and answered of them, and how they ended.
abbrev pub ServeWent : {X : Type 0} → (X → Request → Reply → X → Type 0) → (X → Request → ApplyFault → X → Type 0)
    → (X → ℕ → List Request → Type 0) → (X → X → Type 0) → (X → Option (List ℕ)) → Result (Unit {0}) ServeFault → X → X
    → List Turn → List Request → Option (List ℕ) → Option (List ℕ) → Type 0
ServeWent Step Fails Stand Reads shown (Err (serve.Reading met)) start end turns asked before after =
    InSeats Step Fails Stand Reads shown (Err (serve.Reading met)) start end turns asked before after
ServeWent Step Fails Stand Reads shown (Err (serve.Script (script.Applying fault))) start end turns asked before after =
    InOwners Step Fails Stand Reads shown (script.Applying fault) start end turns asked before after
ServeWent Step Fails Stand Reads shown (Err (serve.Script script.WriteFault)) start end turns asked before after =
    InOwners Step Fails Stand Reads shown script.WriteFault start end turns asked before after
    ⊎ InSeats Step Fails Stand Reads shown (Err (serve.Script script.WriteFault)) start end turns asked before after
ServeWent Step Fails Stand Reads shown (Err (serve.Script script.OutOfMemory)) start end turns asked before after =
    AllDone Step Fails Stand Reads shown start end turns asked before after
    ⊎ (InOwners Step Fails Stand Reads shown script.OutOfMemory start end turns asked before after
    ⊎ InSeats Step Fails Stand Reads shown (Err (serve.Script script.OutOfMemory)) start end turns asked before after)
ServeWent Step Fails Stand Reads shown _ start end turns asked before after =
    AllDone Step Fails Stand Reads shown start end turns asked before after
