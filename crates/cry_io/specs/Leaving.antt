-- What a disk in memory shows, and what a stop may leave on it, by what has happened to it. This project's own.
use Rattle.std.specs.Prelude.{◌≡◌, ◌≤◌, ◌+◌, ◌⊎◌, ℕ, List, [], ◌∷◌, ◌++◌, length, take, drop}
use Rattle.cry_io.specs.Events.{Event, Stays, Wrote}
use Rattle.cry_io.specs.Stops.{Torn, Follows}

-- what reads give
abbrev pub shown_of : List Event → List ℕ
shown_of [] = []
shown_of (Stays bytes ∷ events) = bytes
shown_of (Wrote place bytes ∷ events) = take place (shown_of events) ++ bytes ++ drop (place + length bytes) (shown_of events)

-- a stop leaves the bytes that stay, or comes in between the writes since then
abbrev pub Leaves : List Event → List ℕ → Type 0
Leaves [] left = left ≡ []
Leaves (Stays bytes ∷ events) left = left ≡ bytes
Leaves (Wrote place bytes ∷ events) left = Follows (Torn place (length bytes)) (Leaves events) left

-- at the moment after these events the first bytes are shown and a stop may leave the second
abbrev pub IsNow : List Event → List ℕ → List ℕ → Type 0
IsNow events shown left = (shown_of events ≡ shown) × Leaves events left

-- it was so at some moment from t on; moments are counted by events
abbrev pub Since : List Event → ℕ → List ℕ → List ℕ → Type 0
Since [] t shown left = (t ≤ 0) × IsNow [] shown left
Since (event ∷ events) t shown left = ((t ≤ length (event ∷ events)) × IsNow (event ∷ events) shown left) ⊎ Since events t shown left
