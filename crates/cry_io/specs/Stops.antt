-- What a write leaves, and what a stop may leave between two syncs. This project's own, docs/FORMAT.md.
use Rattle.std.specs.Prelude.{◌≡◌, ◌<◌, ◌≤◌, ◌+◌, ◌⊎◌, ℕ, List, ◌++◌, length, take, drop, max, Option, Some, slice_index}

-- the bytes stand at the place, and all others stay
abbrev pub Written : ℕ → List ℕ → List ℕ → List ℕ → Type 0
Written place bytes old new = new ≡ take place old ++ bytes ++ drop (place + length bytes) old

-- a write of n bytes at the place that is done in part: any bytes in its range and past the old end, and any
-- size between the old one and the end of the range; the same bytes elsewhere
pub record Torn (place n : ℕ) (old new : List ℕ) : Type 0 where
  pub no_shorter : length old ≤ length new
  pub no_longer : length new ≤ max (length old) (place + n)
  pub before : (i : ℕ) → i < length old → i < place → slice_index new i ≡ slice_index old i
  pub behind : (i : ℕ) → i < length old → place + n ≤ i → slice_index new i ≡ slice_index old i

-- the bytes come by the step from some that a stop might have left
abbrev pub Follows : (List ℕ → List ℕ → Type 0) → (List ℕ → Type 0) → List ℕ → Type 0
Follows step old bytes = (before : List ℕ) × old before × step before bytes

-- Time goes on in a call: what was shown and left at some moment since t was so before the call, or is so after it.
pub record Elapses (before now : ℕ) (past since : ℕ → List ℕ → List ℕ → Type 0) (shown : Option (List ℕ)) (may_leave : List ℕ
    → Type 0) : Type 0 where
  pub later : before ≤ now
  pub nothing_else : (t : ℕ) (s c : List ℕ) → t ≤ before → since t s c → past t s c ⊎ ((shown ≡ Some s) × may_leave c)
  pub keeps : (t : ℕ) (s c : List ℕ) → t ≤ before → past t s c → since t s c

-- a stop leaves what is shown and nothing else
abbrev pub IsDurable : (List ℕ → Type 0) → Option (List ℕ) → Type 0
IsDurable may_leave shown = (bytes : List ℕ) → may_leave bytes → shown ≡ Some bytes
