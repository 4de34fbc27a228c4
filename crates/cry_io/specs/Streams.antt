-- What one read and one write do to a stream whose contents are told.
use Rattle.std.specs.Prelude.{◌≡◌, ◌<◌, ℕ, List, [], ◌++◌, length, take, Result, Ok, Err}
use Rattle.cry_io.specs.declared.failed.Failed.{Failed}

-- the first n bytes of the buffer were the next ones; after a failure all are still to come
abbrev pub Reads : Result ℕ Failed → List ℕ → List ℕ → List ℕ → Type 0
Reads (Ok n) buffer before after = before ≡ take n buffer ++ after
Reads (Err _) buffer before after = after ≡ before

-- nothing read into a buffer that isn't empty: nothing is left
abbrev pub IsAtEnd : Result ℕ Failed → List ℕ → List ℕ → List ℕ → Type 0
IsAtEnd result buffer before after = 0 < length buffer → result ≡ Ok 0 → before ≡ []

-- the first n bytes of the piece were added; after a failure none
abbrev pub Takes : Result ℕ Failed → List ℕ → List ℕ → List ℕ → Type 0
Takes (Ok n) piece before after = after ≡ before ++ take n piece
Takes (Err _) piece before after = after ≡ before
