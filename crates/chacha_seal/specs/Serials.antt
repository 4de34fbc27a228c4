-- This project's own, docs/FORMAT.md: the numbers that no two keys and no two sealed records share.
use Rattle.std.specs.Prelude.{ℕ, ◌+◌, ◌*◌, ◌^◌}

-- an epoch, and how many serials were given in it
pub record Counting : Type 0 where
  pub epoch : ℕ
  pub count : ℕ

-- the serial that an epoch gives after this many others
abbrev pub serial_of : ℕ → ℕ → ℕ
serial_of epoch count = epoch * 2 ^ 32 + count
