-- Which calls of a fake are to fail. This project's own.
use Rattle.std.specs.Prelude.{◌≡◌, ◌+◌, ◌≤◌, ◌^◌, ◌⊎◌, ℕ, List, Option, Contains, IsSomeAnd, MatchOption}

-- how many calls there were, which is the number of the next; the numbers of those that are to fail; and from
-- which on all are
pub record Scheduled : Type 0 where
  pub calls : ℕ
  pub fails : List ℕ
  pub dead_from : Option ℕ

-- the next call is to fail
abbrev pub IsToFail : Scheduled → Type 0
IsToFail s = Contains s.fails s.calls ⊎ IsSomeAnd s.dead_from (λ from. from ≤ s.calls)

-- one call more was made
abbrev pub counted : Scheduled → Scheduled
counted s = record s { calls = s.calls + 1 }

-- a count as a number of 64 bits, and none where it needs more
abbrev pub IsNumber : Option ℕ → ℕ → Type 0
IsNumber number calls = MatchOption number (2 ^ 64 ≤ calls) (λ n. n ≡ calls)
