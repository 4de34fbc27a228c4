-- What lines of `serve` did, one after another. This project's own, docs/PROGRAM.md, "Lines".
use Rattle.std.specs.Prelude.{◌++◌, ℕ, List, [], ◌∷◌, Option}
use Rattle.std.specs.List.{flat_map}
use Rattle.cry_base.specs.Requests.{Request}
use Rattle.cry_base.specs.declared.commands.Reply.{Reply}
use Rattle.read_steps.specs.Steps.{SessionView}
use Rattle.script_text.specs.Printing.{spell_reply}
use Rattle.script_text.specs.Seats.{SeatAsk, Turn}
use Rattle.script_text.specs.Seats.Turn.{ToOwner, ToSeat}
use Rattle.script_text.specs.Tasks.{Task}
use Rattle.session_laws.specs.Seats.{PlainReply}
use Rattle.session_laws.specs.Serving.{spell_plain_reply}
use Rattle.cli_serving.specs.Seating.{SeatWent}

-- The lines so far, what was printed to them, the sessions behind them, and where the owner is. A line of the owner's was answered by these
-- commands with these replies; a session's line did what it does while the disk shows this, and only read.
pub data Turned {X : Type 0} (Line : X → Task → List Request → List Reply → X → Type 0) (Reads : X → X → Type 0)
    (shown : X → Option (List ℕ)) (start : X) : List Turn → List Request → List ℕ → List SessionView → X → Type 0 where
  NoTurn : Turned Line Reads shown start [] [] [] [] start
  OwnersTurn : {turns : List Turn} {asked : List Request} {text : List ℕ} {sessions : List SessionView} {x y : X}
      {task : Task} {block : List Request} {replies : List Reply}
      → Turned Line Reads shown start turns asked text sessions x → Line x task block replies y
      → Turned Line Reads shown start (turns ++ ToOwner task ∷ []) (asked ++ block) (text ++ flat_map spell_reply replies) sessions y
  SeatsTurn : {turns : List Turn} {asked : List Request} {text : List ℕ} {sessions later : List SessionView} {x y : X}
      → (ask : SeatAsk) → (reply : PlainReply) → Turned Line Reads shown start turns asked text sessions x
      → SeatWent (shown x) ask sessions reply later → Reads x y
      → Turned Line Reads shown start (turns ++ ToSeat ask ∷ []) asked (text ++ spell_plain_reply reply) later y
