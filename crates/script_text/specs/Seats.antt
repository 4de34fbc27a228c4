-- Lines of `serve` that are read, those of `run` and those of sessions, and replies to sessions' lines as they are printed. This project's
-- own, docs/PROGRAM.md, "Lines".
use Rattle.std.specs.Prelude.{◌≡◌, ℕ, ◌+◌, ◌==◌, List, [], ◌∷◌, ◌++◌, take, drop, Option, Some, None, IsSome, Result, Ok, Err, codes}
use Rattle.std.specs.Prelude.{decimal, position, option_map, option_and_then}
use Rattle.std.specs.List.{flat_map}
use Rattle.script_text.specs.Printing.{spell_line}
use Rattle.script_text.specs.Reading.{IsKey, IsNumber, behind, key_of, number_of}
use Rattle.script_text.specs.Tasks.{IsTaskLine, Task, task_in, task_of}
use Rattle.script_text.specs.declared.fault.LineFault.{LineFault}
use Rattle.script_text.specs.declared.fault.LineFault.TheVariants.{BadLine, OutOfMemory}
use Rattle.script_text.specs.declared.seats.SeatLine.{SeatLine}
use Rattle.script_text.specs.declared.seats.SeatLine.TheVariants as asks
use Rattle.script_text.specs.declared.seats.SeatRefusal.{SeatRefusal}
use Rattle.script_text.specs.declared.seats.SeatRefusal.TheVariants.{NoHolder, NoSession, NotRead, TooMany, WrongKey}
use Rattle.script_text.specs.declared.seats.SeatReply.{SeatReply}
use Rattle.script_text.specs.declared.seats.SeatReply.TheVariants as replies
use Rattle.script_text.specs.declared.seats.TurnLine.{TurnLine}
use Rattle.script_text.specs.declared.seats.TurnLine.TheVariants as turns

-- what a session's line asks for: a new session with a holder's key; and of the session with a number one batch more, another pin, or
-- what it shows
pub data SeatAsk : Type 0 where
  Begins : (holder : ℕ) → (key : List ℕ) → SeatAsk
  Steps : (seat : ℕ) → SeatAsk
  Pins : (seat : ℕ) → SeatAsk
  Shows : (seat : ℕ) → SeatAsk

-- what a line asks the owner for, or a session
pub data Turn : Type 0 where
  ToOwner : (task : Task) → Turn
  ToSeat : (ask : SeatAsk) → Turn

-- what a line of the code asks for
abbrev pub ask_of : SeatLine → SeatAsk
ask_of (asks.Begins holder key) = Begins holder.0 key
ask_of (asks.Steps seat) = Steps seat
ask_of (asks.Pins seat) = Pins seat
ask_of (asks.Shows seat) = Shows seat

abbrev pub turn_of : TurnLine → Turn
turn_of (turns.ToOwner task) = ToOwner (task_of task)
turn_of (turns.ToSeat ask) = ToSeat (ask_of ask)

-- `session N HEX64`
pub record IsSessionLine (line : List ℕ) (holder : ℕ) (key : List ℕ) : Type 0 where
  pub number : List ℕ
  pub digits : List ℕ
  pub spelled : line ≡ codes "session " ++ (number ++ 32 ∷ digits)
  pub is_number : IsNumber number holder
  pub is_key : IsKey digits key

-- a word and a session's number
pub record IsSeatLine (word line : List ℕ) (seat : ℕ) : Type 0 where
  pub number : List ℕ
  pub spelled : line ≡ word ++ number
  pub is_number : IsNumber number seat

-- the line, without its newline, is a session's, and asks for this
abbrev pub IsAskLine : List ℕ → SeatAsk → Type 0
IsAskLine line (Begins holder key) = IsSessionLine line holder key
IsAskLine line (Steps seat) = IsSeatLine (codes "step ") line seat
IsAskLine line (Pins seat) = IsSeatLine (codes "pin ") line seat
IsAskLine line (Shows seat) = IsSeatLine (codes "show ") line seat

-- the line, without its newline, is one of `serve`, and asks for this
abbrev pub IsTurnLine : List ℕ → Turn → Type 0
IsTurnLine line (ToOwner task) = IsTaskLine line task
IsTurnLine line (ToSeat ask) = IsAskLine line ask

-- a holder's number and key, with one space between them
unfoldable pub session_of : List ℕ → Option SeatAsk
session_of fields =
    option_and_then (λ space.
    option_and_then (λ holder. option_map (Begins holder) (key_of (drop (space + 1) fields))) (number_of (take space fields)))
    (position (λ byte. byte == 32) fields)

-- a session's number
unfoldable pub seat_of : (ℕ → SeatAsk) → List ℕ → Option SeatAsk
seat_of ask number = option_map ask (number_of number)

-- what stands behind a word is read, and the whole line where the word is another
abbrev pub by_word : Option (List ℕ) → (List ℕ → Option SeatAsk) → Option Turn → Option Turn
by_word (Some fields) read other = option_map ToSeat (read fields)
by_word None read other = other

-- what a line asks for, and none where it is no line of `serve`
unfoldable pub turn_in : List ℕ → Option Turn
turn_in line =
    by_word (behind (codes "session ") line) session_of
    (by_word (behind (codes "step ") line) (seat_of Steps)
    (by_word (behind (codes "pin ") line) (seat_of Pins)
    (by_word (behind (codes "show ") line) (seat_of Shows)
    (option_map ToOwner (task_in line)))))

-- the answer to a line that asks for this: only a line that asks for something may find no memory
abbrev pub ReadsTurn : Result TurnLine LineFault → Option Turn → Type 0
ReadsTurn (Ok turn) asked = asked ≡ Some (turn_of turn)
ReadsTurn (Err BadLine) asked = asked ≡ None
ReadsTurn (Err OutOfMemory) asked = IsSome asked

-- ---- replies

-- the word that a reply gives for a refusal
abbrev pub seat_word : SeatRefusal → List ℕ
seat_word NoHolder = codes "no-holder"
seat_word NoSession = codes "no-session"
seat_word NotRead = codes "not-read"
seat_word WrongKey = codes "wrong-key"
seat_word TooMany = codes "too-many"

-- a word, and two numbers: one of so many
unfoldable pub of_line : List ℕ → ℕ → ℕ → List ℕ
of_line word one all = word ++ (decimal one ++ (codes " of " ++ (decimal all ++ 10 ∷ [])))

-- a session that was begun, by its number, and how many batches are pinned for it
abbrev pub session_line : ℕ → ℕ → List ℕ
session_line seat pinned = of_line (codes "session ") seat pinned

-- how many batches were read, of how many that are pinned
abbrev pub read_line : ℕ → ℕ → List ℕ
read_line read pinned = of_line (codes "read ") read pinned

-- how many batches are pinned now
unfoldable pub pinned_line : ℕ → List ℕ
pinned_line pinned = codes "pinned " ++ (decimal pinned ++ 10 ∷ [])

-- a session's line that was refused
unfoldable pub unserved_line : SeatRefusal → List ℕ
unserved_line why = codes "refused " ++ (seat_word why ++ 10 ∷ [])

-- behind the lines of a view
abbrev pub end_line : List ℕ
end_line = codes "end" ++ 10 ∷ []

-- what a session's line is answered
abbrev pub spell_seat_reply : SeatReply → List ℕ
spell_seat_reply (replies.Begun seat pinned) = session_line seat pinned
spell_seat_reply (replies.HasRead read pinned) = read_line read pinned
spell_seat_reply (replies.HasPinned pinned) = pinned_line pinned
spell_seat_reply (replies.Shown lines) = flat_map spell_line lines.items ++ end_line
spell_seat_reply (replies.Refused why) = unserved_line why

-- any reply but a view
abbrev pub IsOneLine : SeatReply → Type 0
IsOneLine (replies.Begun seat pinned) = Unit {0}
IsOneLine (replies.HasRead read pinned) = Unit {0}
IsOneLine (replies.HasPinned pinned) = Unit {0}
IsOneLine (replies.Shown lines) = ⊥
IsOneLine (replies.Refused why) = Unit {0}
