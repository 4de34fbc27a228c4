-- What contracts see of a table.
use Rattle.std.specs.Prelude.{ℕ, List}

-- the rows in ascending order of their ranks, and how many more fit without memory
pub record Tabled (T : Type 0) : Type 0 where
  pub rows : List T
  pub spare : ℕ
