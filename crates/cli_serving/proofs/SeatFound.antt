-- The session that a line speaks of, where the code finds it, and what comes of the line.
use Rattle.std.proofs.Common.{◌≡◌, ◌≢◌, ◌⊎◌, inl, inr, ℕ, zero, suc, ◌+◌, ◌<◌, List, [], ◌∷◌, length, get_or, set, Option, Some, None, Ok, arith, refl, sym, ap, subst, ◌∙◌}
use Rattle.std.specs.List.{slice_get}
use Rattle.cry_io.specs.Told.{WhereTold}
use Rattle.commit_journal.specs.Streaming.{ShowsGiven}
use Rattle.log_visits.specs.Answering.{IsFailure}
use Rattle.log_visits.specs.Judging.{view_with}
use Rattle.log_visits.specs.declared.fault.ClientFault.{ClientFault}
use Rattle.log_visits.specs.declared.fault.ClientFault.TheVariants as client
use Rattle.read_steps.specs.Steps.{SessionView}
use Rattle.script_text.specs.declared.seats.SeatRefusal.{SeatRefusal}
use Rattle.script_text.specs.declared.seats.SeatRefusal.TheVariants as refusals
use Rattle.session_laws.specs.Seats.{changed_at, seat_at}
use Rattle.cli_serving.specs.Seating.{IsNoRefusal, RefusesKey, refusal_in}
use Rattle.session_laws.proofs.SeatPlaces.{changed_at_place, seat_at_place}

got : {X : Type 0} (xs : List X) (i : ℕ) (x : X) → i < length xs → x ≡ get_or xs i x → slice_get xs i ≡ Some x
got [] i x less is = absurd (let none : ⊥ = omega (arith, less) in none)
got (y ∷ ys) zero x less is = ap Some (sym is)
got (y ∷ ys) (suc i) x less is = got ys i x (omega (arith, less)) is

pub found_at : {X : Type 0} (xs : List X) (i n : ℕ) (x : X) → i < length xs → i + 1 ≡ n → x ≡ get_or xs i x → seat_at xs n ≡ Some x
found_at xs i n x less next is =
    let number : suc i ≡ n = omega (arith, next) in
    subst (λ k. seat_at xs k ≡ Some x) number (seat_at_place xs i ∙ got xs i x less is)

pub none_at : {X : Type 0} (xs : List X) (n : ℕ) → (n ≡ 0) ⊎ (length xs < n) → seat_at xs n ≡ None
unfolding seat_at
none_at [] n is = refl
none_at (x ∷ xs) zero is = refl
none_at (x ∷ xs) (suc zero) (inl is) = absurd (let none : ⊥ = omega (arith, is) in none)
none_at (x ∷ xs) (suc zero) (inr many) = absurd (let none : ⊥ = omega (arith, many) in none)
none_at (x ∷ xs) (suc (suc n)) (inl is) = absurd (let none : ⊥ = omega (arith, is) in none)
none_at (x ∷ xs) (suc (suc n)) (inr many) = none_at xs (suc n) (inr (omega (arith, many)))

pub set_at : {X : Type 0} (xs : List X) (i n : ℕ) (x : X) → i + 1 ≡ n → set xs i x ≡ changed_at (λ _. x) xs n
set_at xs i n x next =
    let number : suc i ≡ n = omega (arith, next) in
    subst (λ k. set xs i x ≡ changed_at (λ _. x) xs k) number (sym (changed_at_place x xs i))

-- the same one in its place
pub set_same : {X : Type 0} (xs : List X) (i : ℕ) (x : X) → x ≡ get_or xs i x → set xs i x ≡ xs
set_same [] i x is = refl
set_same (y ∷ ys) zero x is = ap (λ z. z ∷ ys) is
set_same (y ∷ ys) (suc i) x is = ap (λ (l : List _). y ∷ l) (set_same ys i x is)

-- a fault of showing that a refusal tells
pub refused_so : (told : Option (List ℕ)) (session : SessionView) (met : ClientFault) (why : SeatRefusal) → refusal_in met ≡ Some why
    → WhereTold told (λ s. ShowsGiven session.log s → IsFailure met (view_with session.bundle (Ok session.log.given))) → RefusesKey told session why
refused_so told session client.NotAStore why is fails = absurd (cc)
refused_so told session client.WrongKey why is fails = let same : refusals.WrongKey ≡ why = cc in subst (RefusesKey told session) same fails
refused_so told session (client.Damaged at) why is fails = absurd (cc)
refused_so told session (client.Tampered batch at) why is fails = absurd (cc)
refused_so told session (client.NoHolder known) why is fails =
    let same : refusals.NoHolder ≡ why = cc in subst (RefusesKey told session) same (λ s shown gives. (known, fails s shown gives))
refused_so told session client.Unseen why is fails = absurd (cc)
refused_so told session client.DiskFault why is fails = absurd (cc)
refused_so told session client.OutOfMemory why is fails = absurd (cc)

-- and one that none tells
pub no_refusal : (met : ClientFault) → refusal_in met ≡ None → met ≢ client.Unseen → IsNoRefusal met
no_refusal client.NotAStore none seen = tt
no_refusal client.WrongKey none seen = absurd (cc)
no_refusal (client.Damaged at) none seen = tt
no_refusal (client.Tampered batch at) none seen = tt
no_refusal (client.NoHolder known) none seen = absurd (cc)
no_refusal client.Unseen none seen = absurd (seen refl)
no_refusal client.DiskFault none seen = tt
no_refusal client.OutOfMemory none seen = tt
