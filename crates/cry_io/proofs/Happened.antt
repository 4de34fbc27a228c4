-- What a sync of a disk in memory leaves.
use Rattle.std.proofs.Common.{◌≡◌, ℕ, List, ◌∷◌, ap, sym, subst}
use Rattle.std.specs.Prelude.{Some}
use Rattle.cry_io.specs.Events.{Event, Stays}
use Rattle.cry_io.specs.Leaving.{shown_of, Leaves}
use Rattle.cry_io.specs.LeavingLaws.{shown_left}

-- what a sync leaves may have been left before it
pub synced_left : (before after : List Event) → after ≡ Stays (shown_of before) ∷ before → (left : List ℕ) → Leaves after left → Leaves before left
synced_left before after is left may =
    let this : Leaves (Stays (shown_of before) ∷ before) left = let P : List Event → Type 0 = λ es. Leaves es left in subst P is may in
    shown_left before left (ap Some (sym this))
