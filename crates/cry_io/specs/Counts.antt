-- Faults are counted, so that a body can't answer one by itself.
use Rattle.std.specs.Prelude.{ℕ, ◌<◌, ◌≤◌, Result, MatchResult}

-- the count never falls, and an error comes only where it rose
abbrev pub CountsFault : {T E : Type 0} → Result T E → ℕ → ℕ → Type 0
CountsFault result old new = MatchResult result (λ _. old ≤ new) (λ _. old < new)
