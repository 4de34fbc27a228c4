-- The order in which rows stand in an index.
use Rattle.std.specs.Prelude.{ℕ, ◌+◌, ◌*◌}

-- by group, and in one group by number
abbrev pub spot_rank : ℕ → ℕ → ℕ
spot_rank group id = group * 4294967296 + id
