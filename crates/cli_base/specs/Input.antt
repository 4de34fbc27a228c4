-- A reader's input: one line, its bundle's. This project's own, docs/PROGRAM.md, "Lines".
use Rattle.std.specs.Prelude.{◌≡◌, ◌<◌, ◌≤◌, ◌⊎◌, ℕ, List, [], ◌∷◌, ◌++◌, length, Option, Some, None, Result, Ok, Err, IsOk, IsSome}
use Rattle.cry_base.specs.declared.client.Bundle.{Bundle}
use Rattle.cry_base.specs.declared.client.Bundle.TheVariants.{Owner, Holder}
use Rattle.script_text.specs.Reading.{bundle_of}
use Rattle.script_text.specs.Cutting.{IsOneLine}
use Rattle.cli_base.specs.Lines.{AreOfLines, InputLine, IsCutOff, LineState, input_limit, lines_ahead, lines_of, read_ahead}
use Rattle.cli_base.specs.Lines.InputLine.{Whole, TooLong}
use Rattle.cli_base.specs.declared.input.InputFault.{InputFault}
use Rattle.cli_base.specs.declared.input.InputFault.TheVariants.{BadLine, Failed, OutOfMemory}
use Rattle.cli_base.specs.declared.status.Status.{Status}
use Rattle.cli_base.specs.declared.status.Status.TheVariants as statuses

-- each line behind the bundle's is bad
abbrev pub alone : Bundle → List InputLine → Result Bundle ℕ
alone bundle [] = Ok bundle
alone bundle (line ∷ lines) = Err 2

-- the first line's bundle, if it is one of any, with these lines behind it
abbrev pub bundle_before : Option Bundle → List InputLine → Result Bundle ℕ
bundle_before None lines = Err 1
bundle_before (Some bundle) lines = alone bundle lines

-- the bundle that these lines hand in, or the number of the first that is bad
abbrev pub bundle_in : List InputLine → Result Bundle ℕ
bundle_in [] = Err 1
bundle_in (TooLong ∷ lines) = Err 1
bundle_in (Whole line ∷ lines) = bundle_before (bundle_of line) lines

-- so for a whole input
unfoldable pub input_answer : List ℕ → Result Bundle ℕ
input_answer typed = bundle_in (lines_of input_limit typed)

-- the owner's key, where a bundle is the owner's
abbrev pub owner_key : Option Bundle → Option (List ℕ)
owner_key (Some (Owner key)) = Some key
owner_key (Some (Holder holder key)) = None
owner_key None = None

-- each line behind the owner's is bad
abbrev pub key_alone : List ℕ → List InputLine → Result (List ℕ) ℕ
key_alone key [] = Ok key
key_alone key (line ∷ lines) = Err 2

-- the first line's key, if it is an owner's, with these lines behind it
abbrev pub key_before : Option (List ℕ) → List InputLine → Result (List ℕ) ℕ
key_before None lines = Err 1
key_before (Some key) lines = key_alone key lines

-- the owner's key that these lines hand in, or the number of the first that is bad: a holder's is
abbrev pub owner_in : List InputLine → Result (List ℕ) ℕ
owner_in [] = Err 1
owner_in (TooLong ∷ lines) = Err 1
owner_in (Whole line ∷ lines) = key_before (owner_key (bundle_of line)) lines

-- so for a whole input
unfoldable pub owner_answer : List ℕ → Result (List ℕ) ℕ
owner_answer typed = owner_in (lines_of input_limit typed)

-- Of what was taken of an input, all but a few bytes are of no more than so many lines.
pub record TakesLines (lines : ℕ) (typed left : List ℕ) : Type 0 where
  pub front : List ℕ
  pub ahead : List ℕ
  pub taken : typed ≡ front ++ (ahead ++ left)
  pub of_lines : AreOfLines lines front
  pub few : length ahead ≤ read_ahead

-- a line that may stand there, and the front of a second
pub record IsPastFirst (May : List ℕ → Type 0) (bytes : List ℕ) : Type 0 where
  pub line : List ℕ
  pub second : List ℕ
  pub bytes_are : bytes ≡ line ++ 10 ∷ second
  pub line_is_one : IsOneLine line
  pub second_is_one : IsOneLine second
  pub may_stand : May line

-- No bad line has ended in these bytes: they don't pass the limit, and are of one line, or of a second behind one that may stand there.
pub record IsUnjudgedBy (May : List ℕ → Type 0) (bytes : List ℕ) : Type 0 where
  pub within : length bytes ≤ input_limit
  pub lines : IsOneLine bytes ⊎ IsPastFirst May bytes

-- a bundle's line may; an owner's may
abbrev pub IsUnjudged : List ℕ → Type 0
IsUnjudged bytes = IsUnjudgedBy (λ line. IsSome (bundle_of line)) bytes

abbrev pub IsUnjudgedOwner : List ℕ → Type 0
IsUnjudgedOwner bytes = IsUnjudgedBy (λ line. IsSome (owner_key (bundle_of line))) bytes

-- the answer is that on the input, of which nothing is left behind a bundle, and little was taken behind a bad line; where the
-- source failed no bad line had ended in what it gave
abbrev pub ReadsInput : Result Bundle InputFault → List ℕ → List ℕ → Type 0
ReadsInput (Ok bundle) typed left = (input_answer typed ≡ Ok bundle) × (left ≡ []) × AreOfLines 1 typed
ReadsInput (Err (BadLine line)) typed left = (input_answer typed ≡ Err line) × TakesLines line typed left
ReadsInput (Err Failed) typed left = (given : List ℕ) × (typed ≡ given ++ left) × IsUnjudged given
ReadsInput (Err OutOfMemory) typed left = Unit {0}

-- so it is of an owner's alone
abbrev pub ReadsOwner : Result (List ℕ) InputFault → List ℕ → List ℕ → Type 0
ReadsOwner (Ok key) typed left = (owner_answer typed ≡ Ok key) × (left ≡ []) × AreOfLines 1 typed
ReadsOwner (Err (BadLine line)) typed left = (owner_answer typed ≡ Err line) × TakesLines line typed left
ReadsOwner (Err Failed) typed left = (given : List ℕ) × (typed ≡ given ++ left) × IsUnjudgedOwner given
ReadsOwner (Err OutOfMemory) typed left = Unit {0}

-- The first line was this bundle's, and the reader stands behind it, with little of what comes.
pub record IsBehindBundle (bundle : Bundle) (typed : List ℕ) (reader : LineState) (left : List ℕ) : Type 0 where
  pub line : List ℕ
  pub is_bundle : bundle_of line ≡ Some bundle
  pub lines_are : lines_of input_limit typed ≡ Whole line ∷ lines_ahead reader left
  pub one : IsOneLine line
  pub cut : IsCutOff line input_limit reader.room typed (reader.line ++ (reader.piece ++ left))
  pub taken : TakesLines 1 typed left

-- The first line hands in a bundle; or it is bad; or the source failed before it ended.
abbrev pub BeginsInput : Result Bundle InputFault → List ℕ → LineState → List ℕ → Type 0
BeginsInput (Ok bundle) typed reader left = IsBehindBundle bundle typed reader left
BeginsInput (Err (BadLine line)) typed reader left = (line ≡ 1) × (input_answer typed ≡ Err 1) × TakesLines 1 typed left
BeginsInput (Err Failed) typed reader left =
    (given : List ℕ) × (typed ≡ given ++ left) × IsOneLine given × (length given ≤ input_limit)
BeginsInput (Err OutOfMemory) typed reader left = Unit {0}

-- The first line is this bundle's, and these lines stand behind it.
pub record BeginsWith (bundle : Bundle) (lines : List InputLine) (typed : List ℕ) : Type 0 where
  pub line : List ℕ
  pub is_bundle : bundle_of line ≡ Some bundle
  pub lines_are : lines_of input_limit typed ≡ Whole line ∷ lines

-- There is no line behind the bundle's; or there is one, which is bad; or the source failed before it ended.
abbrev pub EndsInput : Result (Unit {0}) InputFault → Bundle → List ℕ → List ℕ → Type 0
EndsInput (Ok _) bundle typed left = BeginsWith bundle [] typed × (left ≡ []) × AreOfLines 1 typed
EndsInput (Err (BadLine number)) bundle typed left =
    (number ≡ 2) × ((line : InputLine) × (lines : List InputLine) × BeginsWith bundle (line ∷ lines) typed) × TakesLines 2 typed left
EndsInput (Err Failed) bundle typed left =
    (given : List ℕ) × (typed ≡ given ++ left) × IsUnjudgedBy (λ line. bundle_of line ≡ Some bundle) given
EndsInput (Err OutOfMemory) bundle typed left = Unit {0}

-- the count of faults never falls, and Failed comes only where it rose
abbrev pub InputFailsByCount : {U : Type 0} → Result U InputFault → ℕ → ℕ → Type 0
InputFailsByCount (Err Failed) old new = old < new
InputFailsByCount _ old new = old ≤ new

-- how the program ends where an input fails
abbrev pub input_status : InputFault → Status
input_status (BadLine line) = statuses.BadScript line
input_status Failed = statuses.ReadFault
input_status OutOfMemory = statuses.OutOfMemory

-- what the input decides, whatever the disk shows: a bad line is told, where it has one, unless it failed or memory was wanting first
abbrev pub InputDecides : {X : Type 0} → Status → Result X ℕ → Type 0
InputDecides (statuses.BadScript line) input = input ≡ Err line
InputDecides statuses.ReadFault input = Unit {0}
InputDecides statuses.OutOfMemory input = Unit {0}
InputDecides _ input = IsOk input
