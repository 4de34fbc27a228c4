-- Each seat has the key with which its session was begun.
use Rattle.std.proofs.Common.{◌≡◌, ◌⊎◌, ⊎_elim, inl, inr, ℕ, zero, suc, true, false, cond, List, [], ◌∷◌, ◌++◌, length, Some, refl, sym, ap, subst, ◌∙◌}
use Rattle.std.specs.Prelude.{nat_lt}
use Rattle.cry_base.specs.Sets.{In}
use Rattle.cry_base.specs.declared.limits.Limits.{Limits}
use Rattle.cry_base.proofs.Members.{In-append}
use Rattle.journal_bytes.specs.Script.{Going}
use Rattle.public_fold.specs.Journal.{Journal}
use Rattle.public_fold.specs.Valid.{BeginsWell, IsValid}
use Rattle.script_text.specs.Seats.{SeatAsk, Turn}
use Rattle.script_text.specs.Seats.SeatAsk.{Begins, Pins, Shows, Steps}
use Rattle.script_text.specs.Seats.Turn.{ToOwner, ToSeat}
use Rattle.session_laws.specs.Seats.{GoesForward, Seat, changed_at, new_seat, repinned, seat_at, seats_then, stepped}
use Rattle.session_laws.specs.Serving.{HaveHonestKeys, IsHonestKey, Serving, served_then, turn_then}
use Rattle.session_laws.proofs.HoldersStay.{honest_front}
use Rattle.session_laws.proofs.SeatsForward.{in_changed, in_more, pins_forward, served_grows, stands_follow, steps_forward}

one_seat : (a b : Seat) → Some a ≡ Some b → a ≡ b
one_seat a b is = cc

pub seat_in : (seats : List Seat) (n : ℕ) (seat : Seat) → seat_at seats n ≡ Some seat → In seat seats
unfolding seat_at
seat_in [] n seat is = absurd (cc)
seat_in (s ∷ seats) zero seat is = absurd (cc)
seat_in (s ∷ seats) (suc zero) seat is = inl (sym (one_seat s seat is))
seat_in (s ∷ seats) (suc (suc n)) seat is = inr (seat_in seats (suc n) seat is)

-- ---- whose key it is

-- some seat of these has this seat's key
abbrev HasOld : List Seat → Seat → Type 0
HasOld seats seat = (old : Seat) × In old seats × (old.holder ≡ seat.holder) × (old.key ≡ seat.key)

itself : (seats : List Seat) (seat : Seat) → In seat seats → HasOld seats seat
itself seats seat i = (seat, i, refl, refl)

changed_keys : (change : Seat → Seat) → ((x : Seat) → GoesForward x (change x)) → (seats : List Seat) (n : ℕ) (seat : Seat) → In seat (changed_at change seats n) → HasOld seats seat
changed_keys change forward seats n seat i = ⊎_elim
    (λ same. itself seats seat same)
    (λ new. (
      new.0,
      new.1,
      sym (ap (λ (z : Seat). z.holder) new.2 ∙ (forward new.0).holder),
      sym (ap (λ (z : Seat). z.key) new.2 ∙ (forward new.0).key),
    ))
    (in_changed change seats n seat i)

abbrev IsBegunBy : List Seat → SeatAsk → Seat → Type 0
IsBegunBy seats ask seat = HasOld seats seat ⊎ (Begins seat.holder seat.key ≡ ask)

new_keys : (m : Journal) (holder : ℕ) (key : List ℕ) (seat : Seat) → seat ≡ new_seat m holder key → Begins seat.holder seat.key ≡ Begins holder key
unfolding new_seat
new_keys m holder key seat is = ap (λ (z : Seat). Begins z.holder z.key) is

ask_keys : (m : Journal) (seats : List Seat) (ask : SeatAsk) (seat : Seat) → In seat (seats_then m seats ask) → IsBegunBy seats ask seat
unfolding seats_then
ask_keys m seats (Begins holder key) seat i =
    (elim (nat_lt (length seats) 256) as (λ test. In seat (cond test (seats ++ new_seat m holder key ∷ []) seats) → IsBegunBy seats (Begins holder key) seat) [
      | true ↦ λ all. ⊎_elim (λ old. inl (itself seats seat old)) (λ new. inr (new_keys m holder key seat new)) (in_more seats (new_seat m holder key) seat all)
      | false ↦ λ old. inl (itself seats seat old)
    ]) i
ask_keys m seats (Steps n) seat i = inl (changed_keys stepped steps_forward seats n seat i)
ask_keys m seats (Pins n) seat i = inl (changed_keys (repinned m) (pins_forward m) seats n seat i)
ask_keys m seats (Shows n) seat i = inl (itself seats seat i)

turn_keys : (limits : Limits) (s : Serving) (t : Turn) (seat : Seat) → In seat (turn_then limits s t).seats → HasOld s.seats seat ⊎ (ToSeat (Begins seat.holder seat.key) ≡ t)
unfolding turn_then
turn_keys limits s (ToOwner t) seat i = inl (itself s.seats seat i)
turn_keys limits s (ToSeat ask) seat i = ⊎_elim (λ old. inl old) (λ new. inr (ap ToSeat new)) (ask_keys s.going.journal s.seats ask seat i)

pub served_keys : (limits : Limits) (s : Serving) (turns : List Turn) (seat : Seat) → In seat (served_then limits s turns).seats →
    HasOld s.seats seat ⊎ In (ToSeat (Begins seat.holder seat.key)) turns
unfolding served_then
served_keys limits s [] seat i = inl (itself s.seats seat i)
served_keys limits s (t ∷ turns) seat i = ⊎_elim
    (λ (old : HasOld (turn_then limits s t).seats seat). ⊎_elim
    (λ (before : HasOld s.seats old.0). inl (before.0, before.1, before.2 ∙ old.2, before.3 ∙ old.3))
    (λ now. inr (inl (ap (λ (h : ℕ). ToSeat (Begins h seat.key)) (sym old.2) ∙ ap (λ (k : List ℕ). ToSeat (Begins old.0.holder k)) (sym old.3) ∙ now)))
    (turn_keys limits s t old.0 old.1))
    (λ later. inr (inr later))
    (served_keys limits (turn_then limits s t) turns seat i)

-- ---- honest at the end, honest before

pub served_honest : (limits : Limits) (going : Going) (first more : List Turn) (seat : Seat) → let s : Serving = record { going = going; seats = [] } in
    IsValid (served_then limits s (first ++ more)).going.journal → HaveHonestKeys (served_then limits s (first ++ more)).going.journal (first ++ more) →
    In seat (served_then limits s first).seats → IsHonestKey (served_then limits s first).going.journal seat.holder seat.key
served_honest limits going first more seat valid honest i =
    let s : Serving = record { going = going; seats = [] } in
    let now = served_then limits s first in
    let grown = served_grows limits now more in
    let end : now.going.journal ++ grown.0 ≡ (served_then limits s (first ++ more)).going.journal =
    grown.1 ∙ ap (λ (z : Serving). z.going.journal) (sym (stands_follow limits s first more))
    in
    let there : In (ToSeat (Begins seat.holder seat.key)) (first ++ more) =
    (In-append Turn (ToSeat (Begins seat.holder seat.key)) first more).1
    (⊎_elim (λ (old : HasOld [] seat). absurd old.1) (λ begun. inl begun) (served_keys limits s first seat i))
    in
    honest_front now.going.journal grown.0 seat.holder seat.key (subst BeginsWell (sym end) valid.0)
    (subst (λ (m : Journal). IsHonestKey m seat.holder seat.key) (sym end) (honest seat.holder seat.key there))
