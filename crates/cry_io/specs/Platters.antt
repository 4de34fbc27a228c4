-- The bytes of a disk in memory, and how they stand for what has happened to it. This project's own.
use Rattle.std.specs.Prelude.{◌≡◌, ◌<◌, ◌≤◌, ℕ, Bool, false, List, length, take, slice_index, slice_index_or}
use Rattle.cry_io.specs.Events.{Event}
use Rattle.cry_io.specs.Leaving.{shown_of, Leaves}

-- what has happened, the latest first, and how many bytes there may be
pub record Kept : Type 0 where
  pub events : List Event
  pub room : ℕ

-- a size between the stable one and the shown one, and the stable bytes wherever none is pending
pub record IsOutcome (size : ℕ) (stable : List ℕ) (stable_size : ℕ) (pending : List Bool) (left : List ℕ) : Type 0 where
  pub no_shorter : stable_size ≤ length left
  pub no_longer : length left ≤ size
  pub stays : (i : ℕ) → i < stable_size → slice_index_or pending i false ≡ false → slice_index left i ≡ slice_index stable i

-- the bytes are those that are shown, and each outcome is one that a stop may leave
pub record IsTied (events : List Event) (shown : List ℕ) (size : ℕ) (stable : List ℕ) (stable_size : ℕ) (pending : List Bool) : Type 0 where
  pub shown_is : shown_of events ≡ take size shown
  pub size_fits : size ≤ length shown
  pub no_shorter : stable_size ≤ size
  pub stable_len : length stable ≡ length shown
  pub pending_len : length pending ≡ length shown
  pub leaves : (left : List ℕ) → IsOutcome size stable stable_size pending left → Leaves events left
