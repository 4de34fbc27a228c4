-- Bytes that come in pieces, and the lines in them. This project's own, docs/PROGRAM.md, "Lines".
use Rattle.std.specs.Prelude.{◌≡◌, ◌≢◌, ◌+◌, ◌==◌, nat_lt, ℕ, Bool, true, false, List, [], ◌∷◌, ◌++◌, length, take, All, Option, Some, None}
use Rattle.std.specs.Prelude.{if◌then◌else◌}
use Rattle.std.specs.List.{count_by}
use Rattle.cry_base.specs.Listed.{Listed}

-- the byte that ends a line
abbrev pub is_newline : ℕ → Bool
is_newline byte = byte == 10

-- no line ends in these bytes
abbrev pub IsOneLine : List ℕ → Type 0
IsOneLine bytes = All (λ byte. byte ≢ 10) bytes

-- there are none, or the last one ends a line
abbrev pub EndsLine : List ℕ → Type 0
EndsLine [] = Unit {0}
EndsLine (byte ∷ []) = byte ≡ 10
EndsLine (byte ∷ next ∷ bytes) = EndsLine (next ∷ bytes)

-- lines with the newline of the last, where there are any
abbrev pub with_newline : Bool → List ℕ → List ℕ
with_newline true lines = lines ++ 10 ∷ []
with_newline false lines = []

-- what a cutter was fed, all of it; what it holds of that, which is what was not taken; and the limit that it watches
pub record CutterState : Type 0 where
  pub fed : List ℕ
  pub held : List ℕ
  pub limit : ℕ

-- the number of the line that holds the first byte past the limit, where there is such a byte: a newline belongs to the line that it ends
abbrev pub line_over : ℕ → List ℕ → Option ℕ
line_over limit fed = if nat_lt limit (length fed) then Some (count_by is_newline (take limit fed) + 1) else None

-- the next line is taken, without its newline; none only where no line ends in what is held
abbrev pub TakesLine : CutterState → CutterState → Option (Listed ℕ) → Type 0
TakesLine old new (Some line) = IsOneLine line.items × (old.held ≡ line.items ++ 10 ∷ new.held) × (new ≡ record old { held = new.held })
TakesLine old new None = IsOneLine old.held × (new ≡ old)

-- what stands behind the last whole line is taken; nothing only where that is empty
abbrev pub TakesRest : CutterState → CutterState → Option (Listed ℕ) → Type 0
TakesRest old new (Some rest) =
    IsOneLine rest.items × (rest.items ≢ []) × EndsLine new.held × (old.held ≡ new.held ++ rest.items)
    × (new ≡ record old { held = new.held })
TakesRest old new None = EndsLine old.held × (new ≡ old)
