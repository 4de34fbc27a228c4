-- What each disk in memory keeps to.
use Rattle.std.specs.Prelude.{◌≡◌, ◌≤◌, ◌+◌, ℕ, suc, List, [], ◌∷◌, ◌++◌, length, take, drop, Some}
use Rattle.std.proofs.Common.{refl, sym, ap, subst, arith, inl, inr, length-append, length-drop}
use Rattle.std.proofs.lemmas.List.{places, length-take}
use Rattle.cry_io.specs.Events.{Event, Stays, Wrote}
use Rattle.cry_io.specs.Stops.{Torn}
use Rattle.cry_io.specs.Leaving.{shown_of, Leaves, Since}

-- a write that is done in whole is one that was done in part
pub torn_whole : (place : ℕ) (bytes old : List ℕ)
    → Torn place (length bytes) old (take place old ++ bytes ++ drop (place + length bytes) old)
torn_whole place bytes old = record {
  no_shorter = simp (length-append, length-take, length-drop) (omega arith);
  no_longer = simp (length-append, length-take, length-drop) (omega arith);
  before = λ i within under. grind (arith, places);
  behind = λ i within over. grind (arith, places);
}

-- what is shown may be left
itself_left : (events : List Event) → Leaves events (shown_of events)
itself_left [] = refl
itself_left (Stays bytes ∷ events) = refl
itself_left (Wrote place bytes ∷ events) = (shown_of events, itself_left events, torn_whole place bytes (shown_of events))

told : {X : Type 0} (x y : X) → Some x ≡ Some y → x ≡ y
told x y is = cc

pub shown_length : (events : List Event) (shown : List ℕ) → Some (shown_of events) ≡ Some shown → length shown ≡ length (shown_of events)
shown_length events shown is = ap length (sym (told (shown_of events) shown is))

pub shown_left : (events : List Event) (shown : List ℕ) → Some (shown_of events) ≡ Some shown → Leaves events shown
shown_left events shown is = let P : List ℕ → Type 0 = Leaves events in subst P (told (shown_of events) shown is) (itself_left events)

pub now_counts : (events : List Event) (t : ℕ) (shown left : List ℕ) → t ≤ length events → Some (shown_of events) ≡ Some shown
    → Leaves events left → Since events t shown left
now_counts [] t shown left le is may = (le, (told (shown_of []) shown is, may))
now_counts (event ∷ events) t shown left le is may = inl (le, (told (shown_of (event ∷ events)) shown is, may))

since_le : (events : List Event) (t : ℕ) (shown left : List ℕ) → Since events t shown left → t ≤ length events
since_le [] t shown left h = h.0
since_le (event ∷ events) t shown left (inl h) = h.0
since_le (event ∷ events) t shown left (inr h) = let e : t ≤ length events = since_le events t shown left h in omega arith

pub now_only : (events : List Event) (shown left : List ℕ) → Since events (length events) shown left
    → (Some (shown_of events) ≡ Some shown) × Leaves events left
now_only [] shown left h = (ap Some h.1.0, h.1.1)
now_only (event ∷ events) shown left (inl h) = (ap Some h.1.0, h.1.1)
now_only (event ∷ events) shown left (inr h) =
    let e : suc (length events) ≤ length events = since_le events (suc (length events)) shown left h in absurd (omega arith)
