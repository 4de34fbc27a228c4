-- A piece written to a sink that tells its contents.
use Rattle.std.specs.Prelude.{◌≡◌, ◌≤◌, ℕ, List, ◌++◌, length, take, Result, Ok, Err}

-- a whole piece was written
abbrev pub PrintsAll : List ℕ → List ℕ → List ℕ → Type 0
PrintsAll piece before after = after ≡ before ++ piece

-- some of the first bytes of a piece were written, maybe all
abbrev pub PrintsFront : List ℕ → List ℕ → List ℕ → Type 0
PrintsFront piece before after = (n : ℕ) × (n ≤ length piece) × (after ≡ before ++ take n piece)

-- the whole piece was taken; after a failure a front of it
abbrev pub Prints : {U E : Type 0} → Result U E → List ℕ → List ℕ → List ℕ → Type 0
Prints (Ok _) piece before after = PrintsAll piece before after
Prints (Err _) piece before after = PrintsFront piece before after
