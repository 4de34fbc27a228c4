-- A session's line does what the definition of seats says, where the disk shows a journal's whole bytes.
use Rattle.std.proofs.Common.{◌≡◌, ⊎_elim, ℕ, zero, suc, ◌+◌, ◌<◌, ◌≤◌, true, false, List, [], ◌∷◌, ◌++◌, length, Option, Some, None, Result, Ok, arith, inl, inr, refl, sym, ap, subst, ◌∙◌}
use Rattle.std.specs.Prelude.{nat_lt}
use Rattle.std.proofs.lemmas.Bool.Decides.{nat_tests}
use Rattle.cry_base.specs.Sets.{In}
use Rattle.cry_base.specs.declared.client.Bundle.{Bundle}
use Rattle.commit_journal.specs.Answering.{NotAStore}
use Rattle.commit_journal.specs.Placed.{PlainPlaced}
use Rattle.journal_bytes.specs.Journals.{StandsWholeForJournal}
use Rattle.log_visits.specs.Answering.{IsFailure, IsFault}
use Rattle.log_visits.specs.Judging.{Failure, OfBytes, bundle_log, view_with}
use Rattle.log_visits.specs.View.{Line}
use Rattle.log_visits.specs.declared.fault.ClientFault.{ClientFault}
use Rattle.log_visits.specs.declared.fault.ClientFault.TheVariants as client
use Rattle.public_fold.specs.Journal.{Journal}
use Rattle.read_steps.specs.Steps.{SessionView}
use Rattle.script_text.specs.Seats.{SeatAsk}
use Rattle.script_text.specs.Seats.SeatAsk.{Begins, Pins, Shows, Steps}
use Rattle.script_text.specs.declared.seats.SeatRefusal.TheVariants as refusals
use Rattle.session_laws.specs.Answers.{RepliesTo}
use Rattle.session_laws.specs.Replying.{AnswersAsk, ShowsSeat, ShowsTo, pinned_view}
use Rattle.session_laws.specs.Seats.{PlainReply, Begun, HasPinned, HasRead, Refused, Seat, changed_at, new_seat, repinned, seat_at, seat_reply, seats_then, show_reply, stepped, with_seat}
use Rattle.session_laws.specs.Serving.{IsHonestKey}
use Rattle.session_laws.specs.Sessions.{IsFromOutside, IsSeatOf}
use Rattle.session_laws.proofs.SessionsSeated.{replies_so, seat_batch, seat_begun, seat_can_show, seat_counts, seat_grows, seat_log, seat_pinned, seat_stepped, seat_view}
use Rattle.cli_serving.specs.Seating.{FailsSeat, IsNoRefusal, SeatWent, ShowsOne}
use Rattle.cli_serving.proofs.ViewsFail.{view_fails}

-- ---- seats and sessions, one for one

abbrev pub AreSeats : List ℕ → Journal → List Seat → List SessionView → Type 0
AreSeats owner m [] [] = Unit {0}
AreSeats owner m [] (session ∷ sessions) = ⊥
AreSeats owner m (seat ∷ seats) [] = ⊥
AreSeats owner m (seat ∷ seats) (session ∷ sessions) = IsSeatOf owner m seat session × AreSeats owner m seats sessions

-- whatever the journal becomes
pub seats_grow : (owner : List ℕ) (m more : Journal) (seats : List Seat) (sessions : List SessionView) → AreSeats owner m seats sessions → AreSeats owner (m ++ more) seats sessions
seats_grow owner m more [] [] are = tt
seats_grow owner m more [] (session ∷ sessions) are = absurd are
seats_grow owner m more (seat ∷ seats) [] are = absurd are
seats_grow owner m more (seat ∷ seats) (session ∷ sessions) are = (seat_grows owner m more seat session are.0, seats_grow owner m more seats sessions are.1)

module _ (owner : List ℕ) (m : Journal) where
  as_many : (seats : List Seat) (sessions : List SessionView) → AreSeats owner m seats sessions → length sessions ≡ length seats
  as_many [] [] are = refl
  as_many [] (session ∷ sessions) are = absurd are
  as_many (seat ∷ seats) [] are = absurd are
  as_many (seat ∷ seats) (session ∷ sessions) are = ap suc (as_many seats sessions are.1)

  one_session : (a b : SessionView) → Some a ≡ Some b → a ≡ b
  one_session a b is = cc

  found : (seats : List Seat) (sessions : List SessionView) (n : ℕ) (session : SessionView) → AreSeats owner m seats sessions → seat_at sessions n ≡ Some session →
      (seat : Seat) × (seat_at seats n ≡ Some seat) × In seat seats × IsSeatOf owner m seat session
  unfolding seat_at
  found [] [] n session are is = absurd (cc)
  found [] (one ∷ sessions) n session are is = absurd are
  found (seat ∷ seats) [] n session are is = absurd are
  found (seat ∷ seats) (one ∷ sessions) zero session are is = absurd (cc)
  found (seat ∷ seats) (one ∷ sessions) (suc zero) session are is = (seat, refl, inl refl, subst (IsSeatOf owner m seat) (one_session one session is) are.0)
  found (seat ∷ seats) (one ∷ sessions) (suc (suc n)) session are is =
      let rest = found seats sessions (suc n) session are.1 is in (rest.0, rest.1, inr rest.2, rest.3)

  none_found : (seats : List Seat) (sessions : List SessionView) (n : ℕ) → AreSeats owner m seats sessions → seat_at sessions n ≡ None → seat_at seats n ≡ None
  unfolding seat_at
  none_found [] [] n are is = refl
  none_found [] (one ∷ sessions) n are is = absurd are
  none_found (seat ∷ seats) [] n are is = absurd are
  none_found (seat ∷ seats) (one ∷ sessions) zero are is = refl
  none_found (seat ∷ seats) (one ∷ sessions) (suc zero) are is = absurd (cc)
  none_found (seat ∷ seats) (one ∷ sessions) (suc (suc n)) are is = none_found seats sessions (suc n) are.1 is

  changed : (change : Seat → Seat) (later : SessionView) (seats : List Seat) (sessions : List SessionView) (n : ℕ) (seat : Seat) → AreSeats owner m seats sessions →
      seat_at seats n ≡ Some seat → IsSeatOf owner m (change seat) later → AreSeats owner m (changed_at change seats n) (changed_at (λ _. later) sessions n)
  unfolding seat_at changed_at
  changed change later [] [] n seat are is new = absurd (cc)
  changed change later [] (one ∷ sessions) n seat are is new = absurd are
  changed change later (s ∷ seats) [] n seat are is new = absurd are
  changed change later (s ∷ seats) (one ∷ sessions) zero seat are is new = absurd (cc)
  changed change later (s ∷ seats) (one ∷ sessions) (suc zero) seat are is new =
      let same : seat ≡ s = cc in (subst (λ (z : Seat). IsSeatOf owner m (change z) later) same new, are.1)
  changed change later (s ∷ seats) (one ∷ sessions) (suc (suc n)) seat are is new = (are.0, changed change later seats sessions (suc n) seat are.1 is new)

  more_seats : (seats : List Seat) (sessions : List SessionView) (seat : Seat) (session : SessionView) → AreSeats owner m seats sessions → IsSeatOf owner m seat session →
      AreSeats owner m (seats ++ seat ∷ []) (sessions ++ session ∷ [])
  more_seats [] [] seat session are is = (is, tt)
  more_seats [] (one ∷ sessions) seat session are is = absurd are
  more_seats (s ∷ seats) [] seat session are is = absurd are
  more_seats (s ∷ seats) (one ∷ sessions) seat session are is = (are.0, more_seats seats sessions seat session are.1 is)

-- nobody with that number
unchanged_none : (change : Seat → Seat) (seats : List Seat) (n : ℕ) → seat_at seats n ≡ None → changed_at change seats n ≡ seats
unfolding seat_at changed_at
unchanged_none change [] n is = refl
unchanged_none change (s ∷ seats) zero is = refl
unchanged_none change (s ∷ seats) (suc zero) is = absurd (cc)
unchanged_none change (s ∷ seats) (suc (suc n)) is = ap (λ (l : List Seat). s ∷ l) (unchanged_none change seats (suc n) is)

-- or a change to the same
unchanged_same : (change : Seat → Seat) (seats : List Seat) (n : ℕ) (seat : Seat) → seat_at seats n ≡ Some seat → change seat ≡ seat → changed_at change seats n ≡ seats
unfolding seat_at changed_at
unchanged_same change [] n seat is same = absurd (cc)
unchanged_same change (s ∷ seats) zero seat is same = absurd (cc)
unchanged_same change (s ∷ seats) (suc zero) seat is same =
    let one : seat ≡ s = cc in ap (λ (z : Seat). z ∷ seats) (subst (λ (z : Seat). change z ≡ z) one same)
unchanged_same change (s ∷ seats) (suc (suc n)) seat is same = ap (λ (l : List Seat). s ∷ l) (unchanged_same change seats (suc n) seat is same)

-- what a session's line may meet over a journal, whatever the keys are: the disk failed, or memory was wanting, or a wrong key opened some
-- record
abbrev pub MayFailSeat : ClientFault → Type 0
MayFailSeat client.NotAStore = ⊥
MayFailSeat client.WrongKey = ⊥
MayFailSeat (client.NoHolder known) = ⊥
MayFailSeat client.Unseen = ⊥
MayFailSeat _ = Unit {0}

-- ---- one line

stepped_on : (seat : Seat) → seat.read < seat.pinned → stepped seat ≡ record seat { read = seat.read + 1 }
unfolding stepped
stepped_on seat less = let test : nat_lt seat.read seat.pinned ≡ true = grind (arith, nat_tests) in rw test refl

stepped_same : (seat : Seat) → seat.pinned ≤ seat.read → stepped seat ≡ seat
unfolding stepped
stepped_same seat all = let test : nat_lt seat.read seat.pinned ≡ false = grind (arith, nat_tests) in rw test refl

module _ (owner : List ℕ) (m : Journal) (bytes : List ℕ) (whole : StandsWholeForJournal owner m bytes) (told : Option (List ℕ)) (is_told : told ≡ Some bytes)
    (seats : List Seat) (sessions : List SessionView) (are : AreSeats owner m seats sessions) where
  abbrev Answered : SeatAsk → PlainReply → List SessionView → Type 0
  Answered ask reply new = (reply ≡ seat_reply m seats ask) × AreSeats owner m (seats_then m seats ask) new

  abbrev Honest : Type 0
  Honest = (seat : Seat) → In seat seats → IsHonestKey m seat.holder seat.key

  begins_so : (holder : ℕ) (key : List ℕ) (reply : PlainReply) (new : List SessionView) → SeatWent told (Begins holder key) sessions reply new → Answered (Begins holder key) reply new
  unfolding seat_reply seats_then new_seat
  begins_so holder key reply new (inl full) =
      let many = as_many owner m seats sessions are in
      let test : nat_lt (length seats) 256 ≡ false = grind (arith, nat_tests, many, full.0) in
      rw test (full.1.0, subst (AreSeats owner m seats) (sym full.1.1) are)
  begins_so holder key reply new (inr one) =
      let many = as_many owner m seats sessions are in
      let less = one.1 in
      let test : nat_lt (length seats) 256 ≡ true = grind (arith, nat_tests, many, less) in
      let begun = one.2 in
      let there = begun.pinned bytes is_told in
      let is = seat_begun owner m bytes whole (record { 0 = holder }) key one.0 begun.bundle begun.none_read begun.is_session there in
      rw test (
        one.3 ∙ ap (λ k. Begun (k + 1) one.0.pinned) many ∙ ap (Begun (length seats + 1)) is.pinned,
        subst (AreSeats owner m (seats ++ new_seat m holder key ∷ [])) (sym one.4) (more_seats owner m seats sessions (new_seat m holder key) one.0 are is),
      )

  no_session : (n : ℕ) (answer : Seat → PlainReply) (change : Seat → Seat) (reply : PlainReply) (new : List SessionView) → seat_at sessions n ≡ None → reply ≡ Refused refusals.NoSession → new ≡ sessions →
      (reply ≡ with_seat answer (seat_at seats n)) × AreSeats owner m (changed_at change seats n) new
  unfolding with_seat
  no_session n answer change reply new none is same =
      let gone = none_found owner m seats sessions n are none in (
        is ∙ sym (ap (with_seat answer) gone),
        subst (λ (l : List Seat). AreSeats owner m l new) (sym (unchanged_none change seats n gone)) (subst (AreSeats owner m seats) (sym same) are),
      )

  steps_so : (n : ℕ) (reply : PlainReply) (new : List SessionView) → SeatWent told (Steps n) sessions reply new → Answered (Steps n) reply new
  unfolding seat_reply seats_then with_seat
  steps_so n reply new (inl none) = no_session n (λ seat. HasRead (stepped seat).read seat.pinned) stepped reply new none.0 none.1.0 none.1.1
  steps_so n reply new (inr some) =
      let at = found owner m seats sessions n some.0 are some.1 in
      let seat : Seat = at.0 in
      let is = at.3 in
      let read = seat_counts owner m seat some.0 is in
      let pinned = is.pinned in
      ⊎_elim
      (λ all.
      let done : seat.pinned ≤ seat.read = omega (arith, all.0, read, pinned) in
      let same = stepped_same seat done in (
        all.1 ∙ ap (λ k. HasRead k some.0.pinned) read ∙ ap (HasRead seat.read) pinned ∙ sym (ap (with_seat (λ s. HasRead (stepped s).read s.pinned)) at.1 ∙ ap (λ (s : Seat). HasRead s.read seat.pinned) same),
        subst (λ (l : List Seat). AreSeats owner m l new) (sym (unchanged_same stepped seats n seat at.1 same)) (subst (AreSeats owner m seats) (sym all.2) are),
      ))
      (λ one.
      let less : seat.read < seat.pinned = omega (arith, one.1, read, pinned) in
      let step = one.2 in
      let later = seat_stepped owner m bytes whole seat some.0 one.0 is less step.bundle step.pinned step.is_session (step.given bytes is_told) in
      let count = seat_counts owner m (stepped seat) one.0 later in (
        one.3 ∙ ap (λ k. HasRead k one.0.pinned) count ∙ ap (HasRead (stepped seat).read) (step.pinned ∙ pinned) ∙ sym (ap (with_seat (λ s. HasRead (stepped s).read s.pinned)) at.1),
        subst (AreSeats owner m (changed_at stepped seats n)) (sym one.4) (changed owner m stepped one.0 seats sessions n seat are at.1 later),
      ))
      some.2

  pins_so : (n : ℕ) (reply : PlainReply) (new : List SessionView) → SeatWent told (Pins n) sessions reply new → Answered (Pins n) reply new
  unfolding seat_reply seats_then with_seat
  pins_so n reply new (inl none) = no_session n (λ seat. HasPinned (repinned m seat).pinned) (repinned m) reply new none.0 none.1.0 none.1.1
  pins_so n reply new (inr some) =
      let at = found owner m seats sessions n some.0 are some.1 in
      let seat : Seat = at.0 in
      let one = some.2 in
      let there = one.1.pinned bytes is_told in
      let log : List PlainPlaced = there.0 in
      let later = seat_pinned owner m bytes whole seat some.0 one.0 at.3
      (log, there.1, one.1.rest ∙ ap (λ p. record some.0 { pinned = p }) there.2)
      in (
        one.2 ∙ ap HasPinned later.pinned ∙ sym (ap (with_seat (λ s. HasPinned (repinned m s).pinned)) at.1),
        subst (AreSeats owner m (changed_at (repinned m) seats n)) (sym one.3) (changed owner m (repinned m) one.0 seats sessions n seat are at.1 later),
      )

  shown_so : (seat : Seat) (session : SessionView) → IsSeatOf owner m seat session → seat.read ≡ seat.pinned → IsHonestKey m seat.holder seat.key → (reply : PlainReply) →
      ShowsOne told reply session → reply ≡ show_reply m seat
  shown_so seat session is all honest reply (inl view) =
      let shows = seat_can_show owner m bytes whole seat session is in
      let so : RepliesTo (Ok view.0) (show_reply m seat) =
      subst (λ z. RepliesTo z (show_reply m seat)) (view.1 bytes is_told shows) (replies_so owner m bytes whole seat session is all honest)
      in
      view.2 ∙ sym so
  shown_so seat session is all honest reply (inr (refusals.NoHolder, why, told_so)) =
      let shows = seat_can_show owner m bytes whole seat session is in
      let none = why bytes is_told shows in
      told_so ∙ sym (subst (λ z. RepliesTo z (show_reply m seat)) none.1 (replies_so owner m bytes whole seat session is all honest))
  shown_so seat session is all honest reply (inr (refusals.WrongKey, why, told_so)) =
      let shows = seat_can_show owner m bytes whole seat session is in
      told_so ∙ sym (subst (λ z. RepliesTo z (show_reply m seat)) (why bytes is_told shows) (replies_so owner m bytes whole seat session is all honest))
  shown_so seat session is all honest reply (inr (refusals.NoSession, why, told_so)) = absurd why
  shown_so seat session is all honest reply (inr (refusals.NotRead, why, told_so)) = absurd why
  shown_so seat session is all honest reply (inr (refusals.TooMany, why, told_so)) = absurd why

  -- for every key
  shown_told : (seat : Seat) (session : SessionView) → IsSeatOf owner m seat session → seat.read ≡ seat.pinned → (reply : PlainReply) → ShowsOne told reply session
      → RepliesTo (pinned_view owner m seat) reply
  shown_told seat session is all reply (inl view) =
      let shows = seat_can_show owner m bytes whole seat session is in
      subst (λ z. RepliesTo z reply) (sym (sym (seat_view owner m bytes whole seat session is all) ∙ view.1 bytes is_told shows)) view.2
  shown_told seat session is all reply (inr (refusals.NoHolder, why, told_so)) =
      let none = why bytes is_told (seat_can_show owner m bytes whole seat session is) in
      subst (λ z. RepliesTo z reply) (sym (sym (seat_view owner m bytes whole seat session is all) ∙ none.1)) told_so
  shown_told seat session is all reply (inr (refusals.WrongKey, why, told_so)) =
      subst (λ z. RepliesTo z reply) (sym (sym (seat_view owner m bytes whole seat session is all) ∙ why bytes is_told (seat_can_show owner m bytes whole seat session is))) told_so
  shown_told seat session is all reply (inr (refusals.NoSession, why, told_so)) = absurd why
  shown_told seat session is all reply (inr (refusals.NotRead, why, told_so)) = absurd why
  shown_told seat session is all reply (inr (refusals.TooMany, why, told_so)) = absurd why

  not_read : (seat : Seat) → seat.read < seat.pinned → show_reply m seat ≡ Refused refusals.NotRead
  unfolding show_reply
  not_read seat less = let test : nat_lt seat.read seat.pinned ≡ true = grind (arith, nat_tests) in rw test refl

  shows_so : Honest → (n : ℕ) (reply : PlainReply) (new : List SessionView) → SeatWent told (Shows n) sessions reply new → reply ≡ seat_reply m seats (Shows n)
  unfolding seat_reply with_seat
  shows_so honest n reply new (inl none) =
      let gone = none_found owner m seats sessions n are none.0 in
      none.1.0 ∙ sym (ap (with_seat (show_reply m)) gone)
  shows_so honest n reply new (inr some) =
      let at = found owner m seats sessions n some.0 are some.1 in
      let seat : Seat = at.0 in
      let is = at.3 in
      let read = seat_counts owner m seat some.0 is in
      let pinned = is.pinned in
      let within = is.within in
      ⊎_elim
      (λ few. few.1.0 ∙ sym (ap (with_seat (show_reply m)) at.1 ∙ not_read seat (omega (arith, few.0, read, pinned))))
      (λ all.
      let done : seat.read ≡ seat.pinned = omega (arith, all.0, read, pinned, within.read) in
      shown_so seat some.0 is done (honest seat at.2) reply all.2 ∙ sym (ap (with_seat (show_reply m)) at.1))
      some.2

  shows_none : (n : ℕ) (reply : PlainReply) (new : List SessionView) → SeatWent told (Shows n) sessions reply new → new ≡ sessions
  shows_none n reply new (inl none) = none.1.1
  shows_none n reply new (inr some) = ⊎_elim (λ few. few.1.1) (λ all. all.1) some.2

  -- the seats behind a line, whatever the keys are
  pub seats_behind : (ask : SeatAsk) (reply : PlainReply) (new : List SessionView) → SeatWent told ask sessions reply new → AreSeats owner m (seats_then m seats ask) new
  unfolding seats_then
  seats_behind (Begins holder key) reply new went = (begins_so holder key reply new went).1
  seats_behind (Steps n) reply new went = (steps_so n reply new went).1
  seats_behind (Pins n) reply new went = (pins_so n reply new went).1
  seats_behind (Shows n) reply new went = subst (AreSeats owner m seats) (sym (shows_none n reply new went)) are

  -- and what is replied, for honest keys
  pub seat_replies : Honest → (ask : SeatAsk) (reply : PlainReply) (new : List SessionView) → SeatWent told ask sessions reply new → reply ≡ seat_reply m seats ask
  seat_replies honest (Begins holder key) reply new went = (begins_so holder key reply new went).0
  seat_replies honest (Steps n) reply new went = (steps_so n reply new went).0
  seat_replies honest (Pins n) reply new went = (pins_so n reply new went).0
  seat_replies honest (Shows n) reply new went = shows_so honest n reply new went

  shows_told : (n : ℕ) (reply : PlainReply) (new : List SessionView) → SeatWent told (Shows n) sessions reply new → ShowsTo owner m (seat_at seats n) reply
  shows_told n reply new (inl none) = subst (λ (o : Option Seat). ShowsTo owner m o reply) (sym (none_found owner m seats sessions n are none.0)) none.1.0
  shows_told n reply new (inr some) =
      let at = found owner m seats sessions n some.0 are some.1 in
      let seat : Seat = at.0 in
      let is = at.3 in
      let read = seat_counts owner m seat some.0 is in
      let pinned = is.pinned in
      let within = is.within in
      let shown : ShowsSeat owner m seat reply =
      ⊎_elim
      (λ few. record { unread = λ less. few.1.0; all_read = λ all. absurd (let none : ⊥ = omega (arith, few.0, read, pinned, all) in none) })
      (λ all.
      let done : seat.read ≡ seat.pinned = omega (arith, all.0, read, pinned, within.read) in
      record { unread = λ less. absurd (let none : ⊥ = omega (arith, done, less) in none); all_read = λ most. shown_told seat some.0 is done reply all.2 })
      some.2
      in
      subst (λ (o : Option Seat). ShowsTo owner m o reply) (sym at.1) shown

  -- or whatever they are
  pub seat_answers : (ask : SeatAsk) (reply : PlainReply) (new : List SessionView) → SeatWent told ask sessions reply new → AnswersAsk owner m seats ask reply
  seat_answers (Begins holder key) reply new went = (begins_so holder key reply new went).0
  seat_answers (Steps n) reply new went = (steps_so n reply new went).0
  seat_answers (Pins n) reply new went = (pins_so n reply new went).0
  seat_answers (Shows n) reply new went = shows_told n reply new went

  -- ---- a fault

  fails_outside : (met : ClientFault) (wanted : Result (List Line) Failure) (reply : PlainReply) → IsNoRefusal met → IsFailure met wanted → RepliesTo wanted reply → IsFromOutside met
  fails_outside client.NotAStore wanted reply kind is so = absurd (subst (λ z. RepliesTo z reply) is so)
  fails_outside client.WrongKey wanted reply kind is so = absurd kind
  fails_outside (client.Damaged at) wanted reply kind is so = absurd (subst (λ z. RepliesTo z reply) is so)
  fails_outside (client.Tampered batch at) wanted reply kind is so = absurd (subst (λ z. RepliesTo z reply) is so)
  fails_outside (client.NoHolder known) wanted reply kind is so = absurd kind
  fails_outside client.Unseen wanted reply kind is so = absurd kind
  fails_outside client.DiskFault wanted reply kind is so = tt
  fails_outside client.OutOfMemory wanted reply kind is so = tt

  begin_fails : (holder : ℕ) (key : List ℕ) (met : ClientFault) → FailsSeat told (Begins holder key) sessions met → IsFromOutside met
  begin_fails holder key met fails = seat_log owner m bytes whole (record { 0 = holder }) key met (fails.1 bytes is_told)

  step_fails : (n : ℕ) (met : ClientFault) → FailsSeat told (Steps n) sessions met → IsFromOutside met
  step_fails n met fails =
      let at = found owner m seats sessions n fails.0 are fails.1 in
      let is = at.3 in
      let read = seat_counts owner m at.0 fails.0 is in
      let pinned = is.pinned in
      seat_batch owner m bytes whole at.0 fails.0 met is (omega (arith, fails.2, read, pinned)) (fails.3 bytes is_told)

  pin_fails : (n : ℕ) (met : ClientFault) → FailsSeat told (Pins n) sessions met → IsFromOutside met
  pin_fails n met fails =
      let at = found owner m seats sessions n fails.0 are fails.1 in
      seat_log owner m bytes whole (record { 0 = at.0.holder }) at.0.key met (subst (λ b. IsFault met (bundle_log b bytes)) at.3.bundle (fails.2 bytes is_told))

  -- what the session of a line that shows is refused for
  show_fails : (n : ℕ) (met : ClientFault) → (fails : FailsSeat told (Shows n) sessions met) → IsFailure met (view_with fails.0.bundle (Ok fails.0.log.given))
  show_fails n met fails =
      let at = found owner m seats sessions n fails.0 are fails.1 in
      fails.4 bytes is_told (seat_can_show owner m bytes whole at.0 fails.0 at.3)

  -- one that the disk and memory aren't to blame for is of a line that shows
  pub record IsAmiss (ask : SeatAsk) (met : ClientFault) : Type 0 where
    pub n : ℕ
    pub ask_is : ask ≡ Shows n
    pub seat : Seat
    pub seat_is : seat_at seats n ≡ Some seat
    pub all_read : seat.pinned ≤ seat.read
    pub fails : IsFailure met (pinned_view owner m seat)
    pub dishonest : IsHonestKey m seat.holder seat.key → ⊥

  pub seat_amiss : (ask : SeatAsk) (met : ClientFault) → FailsSeat told ask sessions met → (IsFromOutside met → ⊥) → IsAmiss ask met
  seat_amiss (Begins holder key) met fails inside = absurd (inside (begin_fails holder key met fails))
  seat_amiss (Steps n) met fails inside = absurd (inside (step_fails n met fails))
  seat_amiss (Pins n) met fails inside = absurd (inside (pin_fails n met fails))
  seat_amiss (Shows n) met fails inside =
      let at = found owner m seats sessions n fails.0 are fails.1 in
      let seat : Seat = at.0 in
      let is = at.3 in
      let read = seat_counts owner m seat fails.0 is in
      let pinned = is.pinned in
      let within = is.within in
      let done : seat.read ≡ seat.pinned = omega (arith, fails.2, read, pinned, within.read) in
      record {
        n = n;
        ask_is = refl;
        seat = seat;
        seat_is = at.1;
        all_read = omega (arith, done);
        fails = subst (IsFailure met) (seat_view owner m bytes whole seat fails.0 is done) (show_fails n met fails);
        dishonest = λ honest.
            inside (fails_outside met (view_with fails.0.bundle (Ok fails.0.log.given)) (show_reply m seat) fails.3 (show_fails n met fails)
            (replies_so owner m bytes whole seat fails.0 is done honest));
      }

  -- ---- a fault, whatever the keys are

  outside_may : (met : ClientFault) → IsFromOutside met → MayFailSeat met
  outside_may client.NotAStore is = absurd is
  outside_may client.WrongKey is = absurd is
  outside_may (client.Damaged at) is = absurd is
  outside_may (client.Tampered batch at) is = absurd is
  outside_may (client.NoHolder known) is = absurd is
  outside_may client.Unseen is = absurd is
  outside_may client.DiskFault is = tt
  outside_may client.OutOfMemory is = tt

  view_may : (bundle : Bundle) (given : List PlainPlaced) (met : ClientFault) → IsNoRefusal met → IsFailure met (view_with bundle (Ok given)) → MayFailSeat met
  view_may bundle given client.NotAStore kind is = absurd (view_fails bundle given (OfBytes NotAStore) is)
  view_may bundle given client.WrongKey kind is = absurd kind
  view_may bundle given (client.Damaged at) kind is = tt
  view_may bundle given (client.Tampered batch at) kind is = tt
  view_may bundle given (client.NoHolder known) kind is = absurd kind
  view_may bundle given client.Unseen kind is = absurd kind
  view_may bundle given client.DiskFault kind is = tt
  view_may bundle given client.OutOfMemory kind is = tt

  pub seat_may_fail : (ask : SeatAsk) (met : ClientFault) → FailsSeat told ask sessions met → MayFailSeat met
  seat_may_fail (Begins holder key) met fails = outside_may met (begin_fails holder key met fails)
  seat_may_fail (Steps n) met fails = outside_may met (step_fails n met fails)
  seat_may_fail (Pins n) met fails = outside_may met (pin_fails n met fails)
  seat_may_fail (Shows n) met fails = view_may fails.0.bundle fails.0.log.given met fails.3 (show_fails n met fails)
