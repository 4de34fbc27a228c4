-- Each line has one reply, whatever the keys are; and where the keys are honest it is what the definition of seats says.
use Rattle.std.proofs.Common.{◌≡◌, ⊎_elim, ℕ, ◌≤◌, true, false, cond, List, [], ◌∷◌, ◌++◌, length, take, Option, Some, None, Result, Ok, Err, append_assoc, arith, length-append, inl, inr, refl, sym, ap, subst, ◌∙◌}
use Rattle.std.specs.Prelude.{nat_lt}
use Rattle.std.proofs.lemmas.Bool.Decides.{nat_tests}
use Rattle.std.proofs.lemmas.List.{take-append-le}
use Rattle.commit_journal.specs.Answering as fault
use Rattle.commit_journal.specs.Holding.{IsPrefix}
use Rattle.commit_journal.specs.Placed.{PlainPlaced}
use Rattle.commit_journal.proofs.KeptLemmas.{prefix_same, prefix_trans}
use Rattle.cry_base.specs.Sets.{In}
use Rattle.cry_base.specs.declared.client.Bundle.TheVariants.{Holder}
use Rattle.cry_base.specs.declared.limits.Limits.{Limits}
use Rattle.journal_bytes.specs.Folds.{log_of}
use Rattle.journal_bytes.specs.Keys.{AreWhole}
use Rattle.journal_bytes.specs.Script.{Going}
use Rattle.log_visits.specs.Judging.{Failure, OfBytes, view_with}
use Rattle.log_visits.specs.Judging as failure
use Rattle.log_visits.specs.View.{Line}
use Rattle.public_fold.specs.Journal.{Journal, store_of}
use Rattle.public_fold.specs.Valid.{IsValid}
use Rattle.script_text.specs.Seats.{SeatAsk, Turn}
use Rattle.script_text.specs.Seats.SeatAsk.{Begins, Pins, Shows, Steps}
use Rattle.script_text.specs.Seats.Turn.{ToOwner, ToSeat}
use Rattle.script_text.specs.declared.seats.SeatRefusal.TheVariants.{NotRead}
use Rattle.session_laws.specs.Answers.{RepliesTo}
use Rattle.session_laws.specs.Replying.{AnswersAsk, AnswersTurn, AnswersTurns, ShowsSeat, ShowsTo, pinned_view}
use Rattle.session_laws.specs.Seats.{PlainReply, Refused, Seat, seat_at, seat_reply, seat_shows, show_reply, with_seat}
use Rattle.session_laws.specs.Serving.{AreWithin, HaveHonestKeys, IsHonestKey, Serving, served_text, served_then, spell_plain_reply, turn_text, turn_then}
use Rattle.session_laws.proofs.KeysHonest.{seat_in, served_keys}
use Rattle.session_laws.proofs.LogsGrown.{log_front}
use Rattle.session_laws.proofs.SeatsForward.{served_grows, served_within}
use Rattle.session_laws.proofs.SeatsShown.{front_shows}

-- ---- one reply

one_told : (wanted : Result (List Line) Failure) (one other : PlainReply) → RepliesTo wanted one → RepliesTo wanted other → one ≡ other
one_told (Ok lines) one other first second = first ∙ sym second
one_told (Err (failure.NoHolder known)) one other first second = first ∙ sym second
one_told (Err failure.Unseen) one other first second = absurd first
one_told (Err (OfBytes fault.WrongKey)) one other first second = first ∙ sym second
one_told (Err (OfBytes fault.NotAStore)) one other first second = absurd first
one_told (Err (OfBytes (fault.Damaged at))) one other first second = absurd first
one_told (Err (OfBytes (fault.Tampered batch at))) one other first second = absurd first

one_shown : (owner : List ℕ) (m : Journal) (seat : Seat) (one other : PlainReply) → ShowsSeat owner m seat one → ShowsSeat owner m seat other → one ≡ other
one_shown owner m seat one other first second =
    (elim (nat_lt seat.read seat.pinned) as (λ test. nat_lt seat.read seat.pinned ≡ test → one ≡ other) [
      | true ↦ λ less. first.unread (grind (arith, nat_tests)) ∙ sym (second.unread (grind (arith, nat_tests)))
      | false ↦ λ all. one_told (pinned_view owner m seat) one other (first.all_read (grind (arith, nat_tests))) (second.all_read (grind (arith, nat_tests)))
    ]) refl

one_seat : (owner : List ℕ) (m : Journal) (found : Option Seat) (one other : PlainReply) → ShowsTo owner m found one → ShowsTo owner m found other → one ≡ other
one_seat owner m None one other first second = first ∙ sym second
one_seat owner m (Some seat) one other first second = one_shown owner m seat one other first second

one_reply : (owner : List ℕ) (m : Journal) (seats : List Seat) (ask : SeatAsk) (one other : PlainReply) → AnswersAsk owner m seats ask one → AnswersAsk owner m seats ask other → one ≡ other
one_reply owner m seats (Begins holder key) one other first second = first ∙ sym second
one_reply owner m seats (Steps n) one other first second = first ∙ sym second
one_reply owner m seats (Pins n) one other first second = first ∙ sym second
one_reply owner m seats (Shows n) one other first second = one_seat owner m (seat_at seats n) one other first second

one_turn : (owner : List ℕ) (limits : Limits) (s : Serving) (t : Turn) (one other : List ℕ) → AnswersTurn owner limits s t one → AnswersTurn owner limits s t other → one ≡ other
one_turn owner limits s (ToOwner task) one other first second = first ∙ sym second
one_turn owner limits s (ToSeat ask) one other first second =
    first.2 ∙ ap spell_plain_reply (one_reply owner s.going.journal s.seats ask first.0 second.0 first.1 second.1) ∙ sym second.2

pub one_text : (owner : List ℕ) (limits : Limits) (s : Serving) (turns : List Turn) (one other : List ℕ) → AnswersTurns owner limits s turns one → AnswersTurns owner limits s turns other → one ≡ other
one_text owner limits s [] one other first second = first ∙ sym second
one_text owner limits s (t ∷ turns) one other first second =
    first.2 ∙ ap (λ l. l ++ first.1) (one_turn owner limits s t first.0 second.0 first.3 second.3)
    ∙ ap (λ l. second.0 ++ l) (one_text owner limits (turn_then limits s t) turns first.1 second.1 first.4 second.4) ∙ sym second.2

-- more lines are answered behind
pub answered_on : (owner : List ℕ) (limits : Limits) (s : Serving) (first more : List Turn) (text rest : List ℕ) → AnswersTurns owner limits s first text →
    AnswersTurns owner limits (served_then limits s first) more rest → AnswersTurns owner limits s (first ++ more) (text ++ rest)
unfolding served_then
answered_on owner limits s [] more text rest here behind = subst (AnswersTurns owner limits s more) (ap (λ l. l ++ rest) (sym here)) behind
answered_on owner limits s (t ∷ first) more text rest here behind =
    (here.0, here.1 ++ rest, ap (λ l. l ++ rest) here.2 ∙ append_assoc here.0 here.1 rest, here.3, answered_on owner limits (turn_then limits s t) first more here.1 rest here.4 behind)

-- ---- honest keys

module _ (owner : List ℕ) (final : Journal) (valid : IsValid final) (whole : AreWhole owner final) where
  -- the journal at the time is a front of the last one
  view_told : (m : Journal) (seat : Seat) → IsPrefix m final → seat.pinned ≤ length m → IsHonestKey final seat.holder seat.key
      → RepliesTo (pinned_view owner m seat) (seat_shows (store_of (take seat.pinned m)) seat.holder seat.key)
  unfolding pinned_view
  view_told m seat front within honest =
      let long : seat.pinned ≤ length final = subst (λ (j : Journal). seat.pinned ≤ length j) front.1 (omega (arith, within, length-append m front.0)) in
      let log : take seat.pinned (log_of owner final) ≡ take seat.pinned (log_of owner m) =
      ap (λ (j : Journal). take seat.pinned (log_of owner j)) (sym front.1) ∙ log_front owner m front.0 seat.pinned within
      in
      let entries : take seat.pinned final ≡ take seat.pinned m =
      ap (λ (j : Journal). take seat.pinned j) (sym front.1) ∙ take-append-le seat.pinned m front.0 within
      in
      subst (λ (j : Journal). RepliesTo (view_with (Holder (record { 0 = seat.holder }) seat.key) (Ok (take seat.pinned (log_of owner m)))) (seat_shows (store_of j) seat.holder seat.key)) entries
      (subst (λ (l : List PlainPlaced). RepliesTo (view_with (Holder (record { 0 = seat.holder }) seat.key) (Ok l)) (seat_shows (store_of (take seat.pinned final)) seat.holder seat.key)) log
      (front_shows owner final valid whole seat.pinned (record { 0 = seat.holder }) seat.key long honest))

  shown_told : (m : Journal) (seat : Seat) (reply : PlainReply) → IsPrefix m final → seat.pinned ≤ length m → IsHonestKey final seat.holder seat.key → ShowsSeat owner m seat reply → reply ≡ show_reply m seat
  unfolding show_reply
  shown_told m seat reply front within honest shows =
      (elim (nat_lt seat.read seat.pinned) as (λ test. nat_lt seat.read seat.pinned ≡ test → reply ≡ cond test (Refused NotRead) (seat_shows (store_of (take seat.pinned m)) seat.holder seat.key)) [
        | true ↦ λ less. shows.unread (grind (arith, nat_tests))
        | false ↦ λ all. one_told (pinned_view owner m seat) reply (seat_shows (store_of (take seat.pinned m)) seat.holder seat.key) (shows.all_read (grind (arith, nat_tests))) (view_told m seat front within honest)
      ]) refl

  module _ (m : Journal) (seats : List Seat) (front : IsPrefix m final) (within : (seat : Seat) → In seat seats → seat.pinned ≤ length m)
      (honest : (seat : Seat) → In seat seats → IsHonestKey final seat.holder seat.key) where
    seat_told : (found : Option Seat) → ((seat : Seat) → found ≡ Some seat → In seat seats) → (reply : PlainReply) → ShowsTo owner m found reply → reply ≡ with_seat (show_reply m) found
    unfolding with_seat
    seat_told None there reply shows = shows
    seat_told (Some seat) there reply shows = let i = there seat refl in shown_told m seat reply front (within seat i) (honest seat i) shows

    reply_told : (ask : SeatAsk) (reply : PlainReply) → AnswersAsk owner m seats ask reply → reply ≡ seat_reply m seats ask
    unfolding seat_reply
    reply_told (Begins holder key) reply answers = answers
    reply_told (Steps n) reply answers = answers
    reply_told (Pins n) reply answers = answers
    reply_told (Shows n) reply answers = seat_told (seat_at seats n) (λ seat is. seat_in seats n seat is) reply answers

  turn_told : (limits : Limits) (s : Serving) (t : Turn) → IsPrefix s.going.journal final → AreWithin s → ((seat : Seat) → In seat s.seats → IsHonestKey final seat.holder seat.key)
      → (text : List ℕ) → AnswersTurn owner limits s t text → text ≡ turn_text limits s t
  unfolding turn_text
  turn_told limits s (ToOwner task) front within honest text answers = answers
  turn_told limits s (ToSeat ask) front within honest text answers =
      answers.2 ∙ ap spell_plain_reply (reply_told s.going.journal s.seats front (λ seat i. (within seat i).pinned) honest ask answers.0 answers.1)

  pub text_told : (limits : Limits) (s : Serving) (turns : List Turn) → IsPrefix (served_then limits s turns).going.journal final → AreWithin s
      → ((seat : Seat) → In seat s.seats → IsHonestKey final seat.holder seat.key) → HaveHonestKeys final turns → (text : List ℕ) → AnswersTurns owner limits s turns text
      → text ≡ served_text limits s turns
  unfolding served_text served_then
  text_told limits s [] front within held honest text answers = answers
  text_told limits s (t ∷ turns) front within held honest text answers =
      let next : Serving = turn_then limits s t in
      let here : IsPrefix s.going.journal final = prefix_trans s.going.journal (served_then limits next turns).going.journal final (served_grows limits s (t ∷ turns)) front in
      let keys : (seat : Seat) → In seat next.seats → IsHonestKey final seat.holder seat.key = λ seat i.
      ⊎_elim
      (λ old. subst (λ (h : ℕ). IsHonestKey final h seat.key) old.2 (subst (λ (k : List ℕ). IsHonestKey final old.0.holder k) old.3 (held old.0 old.1)))
      (λ begun. ⊎_elim (λ this. honest seat.holder seat.key (inl this)) (λ none. absurd none) begun)
      (served_keys limits s (t ∷ []) seat i)
      in
      answers.2 ∙ ap (λ l. l ++ answers.1) (turn_told limits s t here within held answers.0 answers.3)
      ∙ ap (λ l. turn_text limits s t ++ l)
      (text_told limits next turns front (served_within limits s (t ∷ []) within) keys (λ h k i. honest h k (inr i)) answers.1 answers.4)

pub honest_told : (owner : List ℕ) (limits : Limits) (going : Going) (turns : List Turn) (text : List ℕ) → let s : Serving = record { going = going; seats = [] } in
    IsValid (served_then limits s turns).going.journal → AreWhole owner (served_then limits s turns).going.journal → HaveHonestKeys (served_then limits s turns).going.journal turns →
    AnswersTurns owner limits s turns text → text ≡ served_text limits s turns
honest_told owner limits going turns text valid whole honest answers =
    let s : Serving = record { going = going; seats = [] } in
    let final : Journal = (served_then limits s turns).going.journal in
    text_told owner final valid whole limits s turns (prefix_same final) (λ seat none. absurd none) (λ seat none. absurd none) honest text answers
