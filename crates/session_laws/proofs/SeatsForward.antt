-- Seats go forward, whatever lines come.
use Rattle.std.proofs.Common.{◌≡◌, ◌⊎◌, ⊎_elim, inl, inr, ℕ, zero, suc, ◌+◌, ◌<◌, ◌≤◌, true, false, cond, List, [], ◌∷◌, ◌++◌, length, take, Option, Some, None, append_assoc, arith, length-append, refl, sym, ap, subst, ◌∙◌}
use Rattle.std.specs.Prelude.{nat_lt}
use Rattle.std.proofs.lemmas.Bool.Decides.{nat_tests}
use Rattle.std.proofs.lemmas.List.{take-append-le}
use Rattle.commit_journal.specs.Holding.{IsPrefix}
use Rattle.commit_journal.proofs.KeptLemmas.{prefix_same, prefix_trans}
use Rattle.cry_base.specs.Requests.{Request}
use Rattle.cry_base.specs.Sets.{In}
use Rattle.cry_base.specs.declared.commands.Refusal.{Refusal}
use Rattle.cry_base.specs.declared.limits.Limits.{Limits}
use Rattle.group_book.specs.Asked.{asked_of}
use Rattle.journal_bytes.specs.Script.{Going, accepted_going, answer, draws_of, keys_from, line_going, script_going}
use Rattle.public_fold.specs.Journal.{Journal}
use Rattle.public_fold.specs.Journal.Entry.{Did, Session}
use Rattle.script_text.specs.Seats.{SeatAsk, Turn}
use Rattle.script_text.specs.Seats.SeatAsk.{Begins, Pins, Shows, Steps}
use Rattle.script_text.specs.Seats.Turn.{ToOwner, ToSeat}
use Rattle.session_laws.specs.Seats.{GoesForward, IsWithin, Seat, changed_at, new_seat, repinned, seat_at, seats_then, stepped}
use Rattle.session_laws.specs.Serving.{AreWithin, Serving, served_text, served_then, turn_text, turn_then}

-- ---- one seat

stays : (seat : Seat) → GoesForward seat seat
stays seat = record { holder = refl; key = refl; pinned = omega arith; read = omega arith }

goes_on : (a b c : Seat) → GoesForward a b → GoesForward b c → GoesForward a c
goes_on a b c first next = record {
  holder = next.holder ∙ first.holder;
  key = next.key ∙ first.key;
  pinned = omega (arith, first.pinned, next.pinned);
  read = omega (arith, first.read, next.read);
}

pub steps_forward : (seat : Seat) → GoesForward seat (stepped seat)
unfolding stepped
steps_forward seat =
    elim (nat_lt seat.read seat.pinned) as (λ test. GoesForward seat (cond test (record seat { read = seat.read + 1 }) seat)) [
      | true ↦ record { holder = refl; key = refl; pinned = omega arith; read = omega arith }
      | false ↦ stays seat
    ]

pub pins_forward : (m : Journal) (seat : Seat) → GoesForward seat (repinned m seat)
unfolding repinned
pins_forward m seat = record { holder = refl; key = refl; pinned = omega arith; read = omega arith }

pub step_within : (m : Journal) (seat : Seat) → IsWithin m seat → IsWithin m (stepped seat)
unfolding stepped
step_within m seat is =
    (elim (nat_lt seat.read seat.pinned) as (λ test. nat_lt seat.read seat.pinned ≡ test → IsWithin m (cond test (record seat { read = seat.read + 1 }) seat)) [
      | true ↦ λ less. let there : seat.read < seat.pinned = grind (arith, nat_tests) in record { read = omega arith; pinned = is.pinned }
      | false ↦ λ same. is
    ]) refl

pub pin_within : (m : Journal) (seat : Seat) → IsWithin m seat → IsWithin m (repinned m seat)
unfolding repinned
pin_within m seat is = let read = is.read in let pinned = is.pinned in record { read = omega arith; pinned = omega arith }

more_within : (low high : Journal) (seat : Seat) → IsPrefix low high → IsWithin low seat → IsWithin high seat
more_within low high seat front is =
    let long = ap length front.1 in
    record { read = is.read; pinned = omega (arith, is.pinned, long, length-append low front.0) }

-- ---- the seat with a number

abbrev Becomes : (Seat → Seat) → Seat → Seat → Type 0
Becomes change seat later = (later ≡ seat) ⊎ (later ≡ change seat)

one_seat : (a b : Seat) → Some a ≡ Some b → a ≡ b
one_seat a b is = cc

found_changed : (change : Seat → Seat) (seats : List Seat) (n i : ℕ) (seat : Seat) → seat_at seats i ≡ Some seat →
    (later : Seat) × (seat_at (changed_at change seats n) i ≡ Some later) × Becomes change seat later
unfolding seat_at changed_at
found_changed change [] n i seat is = absurd (cc)
found_changed change (s ∷ seats) n zero seat is = absurd (cc)
found_changed change (s ∷ seats) zero (suc i) seat is = (seat, is, inl refl)
found_changed change (s ∷ seats) (suc zero) (suc zero) seat is = (change seat, ap (λ z. Some (change z)) (one_seat s seat is), inr refl)
found_changed change (s ∷ seats) (suc zero) (suc (suc i)) seat is = (seat, is, inl refl)
found_changed change (s ∷ seats) (suc (suc n)) (suc zero) seat is = (seat, is, inl refl)
found_changed change (s ∷ seats) (suc (suc n)) (suc (suc i)) seat is = found_changed change seats (suc n) (suc i) seat is

found_before : (seats more : List Seat) (i : ℕ) (seat : Seat) → seat_at seats i ≡ Some seat → seat_at (seats ++ more) i ≡ Some seat
unfolding seat_at
found_before [] more i seat is = absurd (cc)
found_before (s ∷ seats) more zero seat is = absurd (cc)
found_before (s ∷ seats) more (suc zero) seat is = is
found_before (s ∷ seats) more (suc (suc i)) seat is = found_before seats more (suc i) seat is

pub in_changed : (change : Seat → Seat) (seats : List Seat) (n : ℕ) (x : Seat) → In x (changed_at change seats n) → In x seats ⊎ ((y : Seat) × In y seats × (x ≡ change y))
unfolding changed_at
in_changed change [] n x i = absurd i
in_changed change (s ∷ seats) zero x i = inl i
in_changed change (s ∷ seats) (suc zero) x i = ⊎_elim (λ same. inr (s, inl refl, same)) (λ u. inl (inr u)) i
in_changed change (s ∷ seats) (suc (suc n)) x i =
    ⊎_elim
    (λ same. inl (inl same))
    (λ u. ⊎_elim (λ v. inl (inr v)) (λ w. inr (w.0, inr w.1, w.2)) (in_changed change seats (suc n) x u))
    i

pub in_more : (seats : List Seat) (new x : Seat) → In x (seats ++ new ∷ []) → In x seats ⊎ (x ≡ new)
in_more [] new x i = ⊎_elim (λ same. inr same) (λ none. absurd none) i
in_more (s ∷ seats) new x i = ⊎_elim (λ same. inl (inl same)) (λ u. ⊎_elim (λ v. inl (inr v)) (λ w. inr w) (in_more seats new x u)) i

-- ---- one line of a session's

forward_by : (change : Seat → Seat) → ((seat : Seat) → GoesForward seat (change seat)) → (seats : List Seat) (n i : ℕ) (seat : Seat) → seat_at seats i ≡ Some seat →
    (later : Seat) × (seat_at (changed_at change seats n) i ≡ Some later) × GoesForward seat later
forward_by change forward seats n i seat is =
    let found = found_changed change seats n i seat is in (
      found.0,
      found.1,
      ⊎_elim
          (λ same. subst (GoesForward seat) (sym same) (stays seat))
          (λ changed. subst (GoesForward seat) (sym changed) (forward seat))
          found.2,
    )

ask_forward : (m : Journal) (seats : List Seat) (ask : SeatAsk) (i : ℕ) (seat : Seat) → seat_at seats i ≡ Some seat →
    (later : Seat) × (seat_at (seats_then m seats ask) i ≡ Some later) × GoesForward seat later
unfolding seats_then
ask_forward m seats (Begins holder key) i seat is =
    elim (nat_lt (length seats) 256) as (λ test. (later : Seat) × (seat_at (cond test (seats ++ new_seat m holder key ∷ []) seats) i ≡ Some later) × GoesForward seat later) [
      | true ↦ (seat, found_before seats (new_seat m holder key ∷ []) i seat is, stays seat)
      | false ↦ (seat, is, stays seat)
    ]
ask_forward m seats (Steps n) i seat is = forward_by stepped steps_forward seats n i seat is
ask_forward m seats (Pins n) i seat is = forward_by (repinned m) (pins_forward m) seats n i seat is
ask_forward m seats (Shows n) i seat is = (seat, is, stays seat)

abbrev AllWithin : Journal → List Seat → Type 0
AllWithin m seats = (seat : Seat) → In seat seats → IsWithin m seat

within_by : (m : Journal) (change : Seat → Seat) → ((seat : Seat) → IsWithin m seat → IsWithin m (change seat)) → (seats : List Seat) (n : ℕ) → AllWithin m seats →
    AllWithin m (changed_at change seats n)
within_by m change keeps seats n are = λ x i. ⊎_elim
    (λ old. are x old)
    (λ new. subst (IsWithin m) (sym new.2) (keeps new.0 (are new.0 new.1)))
    (in_changed change seats n x i)

new_within : (m : Journal) (holder : ℕ) (key : List ℕ) → IsWithin m (new_seat m holder key)
unfolding new_seat
new_within m holder key = record { read = omega arith; pinned = omega arith }

ask_within : (m : Journal) (seats : List Seat) (ask : SeatAsk) → AllWithin m seats → AllWithin m (seats_then m seats ask)
unfolding seats_then
ask_within m seats (Begins holder key) are =
    elim (nat_lt (length seats) 256) as (λ test. AllWithin m (cond test (seats ++ new_seat m holder key ∷ []) seats)) [
      | true ↦ λ x i. ⊎_elim (λ old. are x old) (λ new. subst (IsWithin m) (sym new) (new_within m holder key)) (in_more seats (new_seat m holder key) x i)
      | false ↦ are
    ]
ask_within m seats (Steps n) are = within_by m stepped (step_within m) seats n are
ask_within m seats (Pins n) are = within_by m (repinned m) (pin_within m) seats n are
ask_within m seats (Shows n) are = are

-- ---- the owner's line

line_grows : (g : Going) (r : Request) (o : Option Refusal) → IsPrefix g.journal (line_going g r o).journal
unfolding line_going accepted_going
line_grows g r None =
    let session = cond g.begun [] (Session ∷ []) in
    let entry = Did r (keys_from (draws_of g.journal r) g.draws) ∷ [] in
    (session ++ entry, sym (append_assoc g.journal session entry))
line_grows g r (Some why) = prefix_same g.journal

pub script_grows : (limits : Limits) (g : Going) (rs : List Request) → IsPrefix g.journal (script_going limits g rs).journal
unfolding script_going
script_grows limits g [] = prefix_same g.journal
script_grows limits g (r ∷ rs) =
    let next = line_going g r (answer limits g.journal g.begun r) in
    prefix_trans g.journal next.journal (script_going limits next rs).journal (line_grows g r (answer limits g.journal g.begun r)) (script_grows limits next rs)

-- ---- one line

turn_grows : (limits : Limits) (s : Serving) (t : Turn) → IsPrefix s.going.journal (turn_then limits s t).going.journal
unfolding turn_then
turn_grows limits s (ToOwner t) = script_grows limits s.going (asked_of limits s.going t)
turn_grows limits s (ToSeat ask) = prefix_same s.going.journal

turn_forward : (limits : Limits) (s : Serving) (t : Turn) (i : ℕ) (seat : Seat) → seat_at s.seats i ≡ Some seat →
    (later : Seat) × (seat_at (turn_then limits s t).seats i ≡ Some later) × GoesForward seat later
unfolding turn_then
turn_forward limits s (ToOwner t) i seat is = (seat, is, stays seat)
turn_forward limits s (ToSeat ask) i seat is = ask_forward s.going.journal s.seats ask i seat is

turn_within : (limits : Limits) (s : Serving) (t : Turn) → AreWithin s → AreWithin (turn_then limits s t)
unfolding turn_then
turn_within limits s (ToOwner t) are = λ seat i. more_within s.going.journal (script_going limits s.going (asked_of limits s.going t)).journal seat
    (script_grows limits s.going (asked_of limits s.going t)) (are seat i)
turn_within limits s (ToSeat ask) are = ask_within s.going.journal s.seats ask are

-- ---- lines

pub served_grows : (limits : Limits) (s : Serving) (turns : List Turn) → IsPrefix s.going.journal (served_then limits s turns).going.journal
unfolding served_then
served_grows limits s [] = prefix_same s.going.journal
served_grows limits s (t ∷ turns) =
    let next = turn_then limits s t in
    prefix_trans s.going.journal next.going.journal (served_then limits next turns).going.journal (turn_grows limits s t) (served_grows limits next turns)

pub served_forward : (limits : Limits) (s : Serving) (turns : List Turn) (n : ℕ) (seat : Seat) → seat_at s.seats n ≡ Some seat →
    (later : Seat) × (seat_at (served_then limits s turns).seats n ≡ Some later) × GoesForward seat later
unfolding served_then
served_forward limits s [] n seat is = (seat, is, stays seat)
served_forward limits s (t ∷ turns) n seat is =
    let first = turn_forward limits s t n seat is in
    let rest = served_forward limits (turn_then limits s t) turns n first.0 first.1 in
    (rest.0, rest.1, goes_on seat first.0 rest.0 first.2 rest.2)

pub served_within : (limits : Limits) (s : Serving) (turns : List Turn) → AreWithin s → AreWithin (served_then limits s turns)
unfolding served_then
served_within limits s [] are = are
served_within limits s (t ∷ turns) are = served_within limits (turn_then limits s t) turns (turn_within limits s t are)

take_grows : (low high : ℕ) (m : Journal) → low ≤ high → IsPrefix (take low m) (take high m)
take_grows zero high m within = (take high m, refl)
take_grows (suc low) zero m within = absurd (omega arith)
take_grows (suc low) (suc high) [] within = ([], refl)
take_grows (suc low) (suc high) (e ∷ m) within =
    let rest = take_grows low high m (omega (arith, within)) in (rest.0, ap (λ l. e ∷ l) rest.1)

pub served_prefixes : (limits : Limits) (s : Serving) (turns : List Turn) (n : ℕ) (seat later : Seat) → IsWithin s.going.journal seat → seat_at s.seats n ≡ Some seat →
    seat_at (served_then limits s turns).seats n ≡ Some later → IsPrefix (take seat.pinned s.going.journal) (take later.pinned (served_then limits s turns).going.journal)
served_prefixes limits s turns n seat later within is then =
    let now = served_forward limits s turns n seat is in
    let same : now.0 ≡ later = one_seat now.0 later (sym now.1 ∙ then) in
    let pinned : seat.pinned ≤ later.pinned = subst (λ (z : Seat). seat.pinned ≤ z.pinned) same now.2.pinned in
    let grown = served_grows limits s turns in
    let end = (served_then limits s turns).going.journal in
    let front : take seat.pinned s.going.journal ≡ take seat.pinned end =
    sym (take-append-le seat.pinned s.going.journal grown.0 within.pinned) ∙ ap (take seat.pinned) grown.1
    in
    subst (λ (l : Journal). IsPrefix l (take later.pinned end)) (sym front) (take_grows seat.pinned later.pinned end pinned)

pub text_follows : (limits : Limits) (s : Serving) (first more : List Turn) →
    served_text limits s (first ++ more) ≡ served_text limits s first ++ served_text limits (served_then limits s first) more
unfolding served_text served_then
text_follows limits s [] more = refl
text_follows limits s (t ∷ first) more =
    let next = turn_then limits s t in
    ap (λ l. turn_text limits s t ++ l) (text_follows limits next first more)
    ∙ sym (append_assoc (turn_text limits s t) (served_text limits next first) (served_text limits (served_then limits next first) more))

pub stands_follow : (limits : Limits) (s : Serving) (first more : List Turn) → served_then limits s (first ++ more) ≡ served_then limits (served_then limits s first) more
unfolding served_then
stands_follow limits s [] more = refl
stands_follow limits s (t ∷ first) more = stands_follow limits (turn_then limits s t) first more
