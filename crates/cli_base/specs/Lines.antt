-- The lines of an input, one after another. This project's own, docs/PROGRAM.md, "Lines".
use Rattle.std.specs.Prelude.{◌≡◌, ◌<◌, ◌≤◌, ◌⊎◌, ℕ, zero, suc, ◌+◌, List, [], ◌∷◌, ◌++◌, length, Option, Some, None, Result, Ok, Err}
use Rattle.std.specs.Prelude.{if◌then◌else◌}
use Rattle.script_text.specs.Cutting.{IsOneLine, is_newline}
use Rattle.cli_base.specs.declared.lines.Next.{Next}
use Rattle.cli_base.specs.declared.lines.Next.TheVariants.{Line, End, PastLimit}
use Rattle.cli_base.specs.declared.lines.NextFault.{NextFault}
use Rattle.cli_base.specs.declared.lines.NextFault.TheVariants.{Failed}

-- the most bytes that an input may have
abbrev pub input_limit : ℕ
input_limit = 67108864

-- these bytes are of no more than so many lines
abbrev pub AreOfLines : ℕ → List ℕ → Type 0
AreOfLines zero bytes = bytes ≡ []
AreOfLines (suc lines) bytes = IsOneLine bytes
    ⊎ ((line rest : List ℕ) × IsOneLine line × (bytes ≡ line ++ 10 ∷ rest) × AreOfLines lines rest)

-- a line without its newline, or a line that holds a byte past the limit
pub data InputLine : Type 0 where
  Whole : (bytes : List ℕ) → InputLine
  TooLong : InputLine

-- a byte that is no newline, before these lines: it is the first of the first
abbrev pub begun_with : ℕ → List InputLine → List InputLine
begun_with byte [] = Whole (byte ∷ []) ∷ []
begun_with byte (Whole bytes ∷ lines) = Whole (byte ∷ bytes) ∷ lines
begun_with byte (TooLong ∷ lines) = TooLong ∷ lines

-- the lines of an input that may have so many bytes: a newline ends a line and belongs to it, and the last line may end
-- with the input; the line that holds one byte more is too long, and no line is told behind it
unfoldable pub lines_of : ℕ → List ℕ → List InputLine
lines_of room [] = []
lines_of zero (byte ∷ bytes) = TooLong ∷ []
lines_of (suc room) (byte ∷ bytes) = if is_newline byte then Whole [] ∷ lines_of room bytes else begun_with byte (lines_of room bytes)

-- what a reader of lines holds: the first bytes of the line that is begun, or that line with its newline; the bytes read behind them;
-- how many bytes this line and those behind it may have; and how many lines were given
pub record LineState : Type 0 where
  pub line : List ℕ
  pub piece : List ℕ
  pub room : ℕ
  pub given : ℕ

-- the bytes that are still to come: those that are held, and those that are left in the source
abbrev pub bytes_ahead : LineState → List ℕ → List ℕ
bytes_ahead state left = state.line ++ (state.piece ++ left)

-- their lines
abbrev pub lines_ahead : LineState → List ℕ → List InputLine
lines_ahead state left = lines_of state.room (bytes_ahead state left)

-- all that is held is the front of a line that hasn't ended, within the limit
pub record IsUnended (state : LineState) : Type 0 where
  pub all : state.piece ≡ []
  pub one : IsOneLine state.line
  pub within : length state.line ≤ state.room

-- what is given is the first of the lines that were to come, and the others are still to come
abbrev pub Gives : Next → List InputLine → List InputLine → Type 0
Gives (Line number bytes) before after = before ≡ Whole bytes.items ∷ after
Gives End before after = (before ≡ []) × (after ≡ [])
Gives (PastLimit number) before after = (before ≡ TooLong ∷ []) × (after ≡ before)

-- so it is, and after a fault all are still to come
abbrev pub GivesNext : Result Next NextFault → List InputLine → List InputLine → Type 0
GivesNext (Ok next) before after = Gives next before after
GivesNext (Err fault) before after = after ≡ before

-- a line has the next number, from 1, and only a line that is given is counted
abbrev pub Numbers : Next → ℕ → ℕ → Type 0
Numbers (Line number bytes) before after = (number ≡ before + 1) × (after ≡ number)
Numbers End before after = after ≡ before
Numbers (PastLimit number) before after = (number ≡ before + 1) × (after ≡ before)

abbrev pub NumbersNext : Result Next NextFault → ℕ → ℕ → Type 0
NumbersNext (Ok next) before after = Numbers next before after
NumbersNext (Err fault) before after = after ≡ before

-- a line and what may stand behind it have no more room than there was, and a line takes some
abbrev pub Within : Next → ℕ → ℕ → Type 0
Within (Line number bytes) before after = (length bytes.items + after ≤ before) × (after < before)
Within _ before after = after ≡ before

-- the most bytes that are read behind the line that is given
abbrev pub read_ahead : ℕ
read_ahead = 65536

-- a line is cut off the front of these bytes, with its newline, or with the end behind it
abbrev pub IsCutOff : List ℕ → ℕ → ℕ → List ℕ → List ℕ → Type 0
IsCutOff line room rest before after =
    ((before ≡ line ++ 10 ∷ after) × (room ≡ rest + (length line + 1))) ⊎ ((before ≡ line) × (after ≡ []) × (length line ≤ room))

-- A line was cut off the front of the bytes that were to come, and few are held behind it.
pub record TakesOff (line : List ℕ) (old new : LineState) (before after : List ℕ) : Type 0 where
  pub one : IsOneLine line
  pub begins : new.line ≡ []
  pub few : length new.piece ≤ read_ahead
  pub cut : IsCutOff line old.room new.room before after

-- All bytes are still to come; and those that are held are of one line, and few behind it.
pub record TakesNone (new : LineState) (before after : List ℕ) : Type 0 where
  pub same : after ≡ before
  pub one : AreOfLines 1 new.line
  pub few : length new.piece ≤ read_ahead

-- the bytes that were to come, and those that still are
abbrev pub Takes : Next → LineState → LineState → List ℕ → List ℕ → Type 0
Takes (Line number bytes) old new before after = TakesOff bytes.items old new before after
Takes End old new before after = (before ≡ []) × (after ≡ [])
Takes (PastLimit number) old new before after = TakesNone new before after

-- so it is, and after a fault all are still to come
abbrev pub TakesNext : Result Next NextFault → LineState → LineState → List ℕ → List ℕ → Type 0
TakesNext (Ok next) old new before after = Takes next old new before after
TakesNext (Err fault) old new before after = (after ≡ before) × (new.room ≡ old.room)

-- what is given of the bytes held, whatever is left in the source
pub record GivesFrom (next : Next) (old new : LineState) : Type 0 where
  pub gives : (left : List ℕ) → Gives next (lines_ahead old left) (lines_ahead new left)
  pub takes : (left : List ℕ) → Takes next old new (bytes_ahead old left) (bytes_ahead new left)
  pub number : Numbers next old.given new.given
  pub room : Within next old.room new.room

-- what ends in the bytes held is given; where nothing does, they are the front of a line
abbrev pub GivesHeld : Option Next → LineState → LineState → Type 0
GivesHeld (Some next) old new = GivesFrom next old new
GivesHeld None old new = IsUnended new × (new ≡ record old { line = old.line ++ old.piece; piece = [] })

-- so it is where nothing more is fed; where no line ends, the front of one stays as it is
abbrev pub GivesCut : Option Next → LineState → LineState → Type 0
GivesCut (Some next) old new = GivesFrom next old new
GivesCut None old new = IsOneLine new.line × (length new.line ≤ new.room) × (new ≡ old)

-- The front of the piece is put behind the line that is held: to the line's end, or all of it.
pub record FeedsLine (old new : LineState) : Type 0 where
  pub front : List ℕ
  pub line : new.line ≡ old.line ++ front
  pub piece : old.piece ≡ front ++ new.piece
  pub whole : IsOneLine front → new.piece ≡ []
  pub room : new.room ≡ old.room
  pub given : new.given ≡ old.given

-- All that was to come still is.
pub record KeepsAhead (old new : LineState) : Type 0 where
  pub bytes : (left : List ℕ) → bytes_ahead new left ≡ bytes_ahead old left
  pub room : new.room ≡ old.room
  pub given : new.given ≡ old.given

-- the count of faults never falls, and Failed comes only where it rose
abbrev pub NextFailsByCount : Result Next NextFault → ℕ → ℕ → Type 0
NextFailsByCount (Err Failed) old new = old < new
NextFailsByCount _ old new = old ≤ new
