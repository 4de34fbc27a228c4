-- What is told of a file: not its bytes, and not what a stop may leave.
use Rattle.std.specs.Prelude.{◌≡◌, ℕ, Bool, List, Option, None, Some}

-- whether there is a file, the number of bytes, and how many calls failed
pub record Measured : Type 0 where
  pub is_open : Bool
  pub size : ℕ
  pub faults : ℕ

-- its bytes are not told
abbrev pub no_bytes : Option (List ℕ)
no_bytes = None

-- what a stop may leave is not told, at no moment
abbrev pub NoStop : List ℕ → Type 0
NoStop left = ⊥

abbrev pub NoSince : ℕ → List ℕ → List ℕ → Type 0
NoSince t shown left = ⊥

-- where nothing is told, whatever is said of what is told holds
pub untold : (bytes : List ℕ) → no_bytes ≡ Some bytes → ⊥
untold bytes is = cc
