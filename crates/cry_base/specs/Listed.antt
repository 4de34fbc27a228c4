-- What contracts see of a list with room.
use Rattle.std.specs.Prelude.{ℕ, List}

-- the items in order, and how many more fit without memory
pub record Listed (T : Type 0) : Type 0 where
  pub items : List T
  pub spare : ℕ
