-- The lines of an input that hand in a proof, one hash each. This project's own, docs/PROGRAM.md, "Lines".
use Rattle.std.specs.Prelude.{◌≡◌, ◌<◌, ◌≤◌, ℕ, ◌+◌, List, [], ◌∷◌, ◌++◌, length, Option, Some, None, Result, Ok, Err}
use Rattle.cry_base.specs.Listed.{Listed}
use Rattle.script_text.specs.Cutting.{IsOneLine}
use Rattle.script_text.specs.Reading.{node_of}
use Rattle.cli_base.specs.Input.{TakesLines}
use Rattle.cli_base.specs.Lines.{InputLine, IsCutOff, IsUnended, LineState, bytes_ahead, input_limit, lines_ahead, lines_of}
use Rattle.cli_base.specs.Lines.InputLine.{Whole, TooLong}
use Rattle.cli_base.specs.declared.input.InputFault.{InputFault}
use Rattle.cli_base.specs.declared.input.InputFault.TheVariants.{BadLine, Failed, OutOfMemory}

-- the hash of the line with this number, if it is one of any, before those that the lines behind it hand in
abbrev pub node_before : Option (List ℕ) → ℕ → Result (List (List ℕ)) ℕ → Result (List (List ℕ)) ℕ
node_before None number behind = Err number
node_before (Some node) number (Ok nodes) = Ok (node ∷ nodes)
node_before (Some node) number (Err later) = Err later

-- the hashes that these lines hand in, so many others before them, or the number of the first that is bad
abbrev pub proof_in : ℕ → List InputLine → Result (List (List ℕ)) ℕ
proof_in given [] = Ok []
proof_in given (TooLong ∷ lines) = Err (given + 1)
proof_in given (Whole line ∷ lines) = node_before (node_of line) (given + 1) (proof_in (given + 1) lines)

-- so for a whole input
unfoldable pub proof_typed : List ℕ → Result (List (List ℕ)) ℕ
proof_typed typed = proof_in 0 (lines_of input_limit typed)

-- these bytes are lines of these hashes, each with its newline
abbrev pub AreNodeLines : List (List ℕ) → List ℕ → Type 0
AreNodeLines [] bytes = bytes ≡ []
AreNodeLines (node ∷ nodes) bytes =
    (line rest : List ℕ) × IsOneLine line × (node_of line ≡ Some node) × (bytes ≡ line ++ 10 ∷ rest) × AreNodeLines nodes rest

-- No bad line has ended in these bytes: they don't pass the limit, and are lines of hashes, and maybe the front of one more.
pub record IsUnjudgedProof (bytes : List ℕ) : Type 0 where
  pub nodes : List (List ℕ)
  pub front : List ℕ
  pub last : List ℕ
  pub within : length bytes ≤ input_limit
  pub bytes_are : bytes ≡ front ++ last
  pub are_nodes : AreNodeLines nodes front
  pub last_is_one : IsOneLine last

-- the answer is that on the input, of which nothing is left behind a proof, and little was taken behind a bad line; where the source
-- failed no bad line had ended in what it gave
abbrev pub ReadsProof : Result (Listed (List ℕ)) InputFault → List ℕ → List ℕ → Type 0
ReadsProof (Ok proof) typed left = (proof_typed typed ≡ Ok proof.items) × (left ≡ [])
ReadsProof (Err (BadLine line)) typed left = (proof_typed typed ≡ Err line) × TakesLines line typed left
ReadsProof (Err Failed) typed left = (given : List ℕ) × (typed ≡ given ++ left) × IsUnjudgedProof given
ReadsProof (Err OutOfMemory) typed left = Unit {0}

-- The next line was this hash's, and the reader stands behind it.
pub record TakesNode (node : List ℕ) (old new : LineState) (before left : List ℕ) : Type 0 where
  pub line : List ℕ
  pub is_node : node_of line ≡ Some node
  pub lines_are : lines_ahead old before ≡ Whole line ∷ lines_ahead new left
  pub one : IsOneLine line
  pub cut : IsCutOff line old.room new.room (bytes_ahead old before) (bytes_ahead new left)
  pub given : new.given ≡ old.given + 1

-- the first line is bad: it is no hash's, or goes past the limit
abbrev pub IsBadFirst : List InputLine → Type 0
IsBadFirst [] = ⊥
IsBadFirst (Whole line ∷ lines) = node_of line ≡ None
IsBadFirst (TooLong ∷ lines) = Unit {0}

-- the next line's hash was taken, or there is no line more; a bad line has the next number, and little was taken behind it; where the
-- source failed all is still to come, and no line had ended
abbrev pub NextNode : Result (Option (List ℕ)) InputFault → LineState → LineState → List ℕ → List ℕ → Type 0
NextNode (Ok (Some node)) old new before left = TakesNode node old new before left
NextNode (Ok None) old new before left = (lines_ahead old before ≡ []) × (left ≡ [])
NextNode (Err (BadLine line)) old new before left =
    (line ≡ old.given + 1) × IsBadFirst (lines_ahead old before) × TakesLines 1 (bytes_ahead old before) left
NextNode (Err Failed) old new before left = IsUnended new × (bytes_ahead new left ≡ bytes_ahead old before) × (new.room ≡ old.room)
NextNode (Err OutOfMemory) old new before left = Unit {0}

-- a line takes some of the room
abbrev pub TakesRoom : Result (Option (List ℕ)) InputFault → ℕ → ℕ → Type 0
TakesRoom (Ok (Some node)) old new = new < old
TakesRoom (Ok None) old new = Unit {0}
TakesRoom (Err fault) old new = Unit {0}
