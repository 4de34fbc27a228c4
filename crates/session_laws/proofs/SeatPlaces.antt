-- The one with a number stands at the place before it in a list.
use Rattle.std.proofs.Common.{◌≡◌, ℕ, zero, suc, List, [], ◌∷◌, None, refl, ap}
use Rattle.std.specs.List.{slice_get}
use Rattle.std.specs.Prelude.{set}
use Rattle.session_laws.specs.Seats.{changed_at, seat_at}

pub seat_at_place : {X : Type 0} (xs : List X) (i : ℕ) → seat_at xs (suc i) ≡ slice_get xs i
unfolding seat_at
seat_at_place [] i = refl
seat_at_place (x ∷ xs) zero = refl
seat_at_place (x ∷ xs) (suc i) = seat_at_place xs i

pub seat_at_none : {X : Type 0} (xs : List X) → seat_at xs 0 ≡ None
unfolding seat_at
seat_at_none [] = refl
seat_at_none (x ∷ xs) = refl

pub changed_at_place : {X : Type 0} (y : X) (xs : List X) (i : ℕ) → changed_at (λ _. y) xs (suc i) ≡ set xs i y
unfolding changed_at
changed_at_place y [] i = refl
changed_at_place y (x ∷ xs) zero = refl
changed_at_place y (x ∷ xs) (suc i) = ap (λ (l : List _). x ∷ l) (changed_at_place y xs i)
