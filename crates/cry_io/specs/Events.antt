-- What has happened to a disk in memory, the latest first. This project's own.
use Rattle.std.specs.Prelude.{ℕ, List}

-- these bytes became all that a stop leaves, or bytes were written at a place
pub data Event : Type 0 where
  Stays : List ℕ → Event
  Wrote : ℕ → List ℕ → Event
