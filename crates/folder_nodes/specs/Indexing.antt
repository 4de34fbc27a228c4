-- What stands in an index of rows by their groups.
use Rattle.std.specs.Prelude.{◌≡◌, ℕ, ◌<◌, List}
use Rattle.cry_base.specs.Sets.{In}
use Rattle.folder_nodes.specs.declared.spots.Spot.{Spot}

-- where a row of the group with the number stands
abbrev pub spot_of : ℕ → ℕ → Spot
spot_of group id = record { group = group; id = id }

-- where a row stands in its group
abbrev pub place_of : {T : Type 0} → (T → ℕ) → (T → ℕ) → T → Spot
place_of rank group r = spot_of (group r) (rank r)

-- each row stands in the index under its group, and nothing else does
pub record IsIndexed {T : Type 0} (rank group : T → ℕ) (rows : List T) (spots : List Spot) : Type 0 where
  pub small : (r : T) → In r rows → rank r < 4294967296
  pub listed : (r : T) → In r rows → In (spot_of (group r) (rank r)) spots
  pub only : (q : Spot) → In q spots → (r : T) × In r rows × (q ≡ spot_of (group r) (rank r))
