-- What lines are answered whatever keys the sessions have. This project's own, docs/PROGRAM.md, "Lines".
--
-- The replies to the owner, and to a session that begins, steps or is pinned, hang on no session's key. What a session shows does: its key
-- may have the check of a holder's and be another. It is what the batches that are pinned show to that key.
use Rattle.std.specs.Prelude.{◌≡◌, ◌<◌, ◌≤◌, ◌++◌, ℕ, List, [], ◌∷◌, Option, Some, None, Result, Ok, take}
use Rattle.cry_base.specs.declared.client.Bundle.TheVariants.{Holder}
use Rattle.cry_base.specs.declared.limits.Limits.{Limits}
use Rattle.journal_bytes.specs.Folds.{log_of}
use Rattle.log_visits.specs.Judging.{Failure, view_with}
use Rattle.log_visits.specs.View.{Line}
use Rattle.public_fold.specs.Journal.{Journal}
use Rattle.script_text.specs.Seats.{SeatAsk, Turn}
use Rattle.script_text.specs.Seats.SeatAsk.{Shows}
use Rattle.script_text.specs.Seats.Turn.{ToOwner, ToSeat}
use Rattle.script_text.specs.declared.seats.SeatRefusal.TheVariants.{NoSession, NotRead}
use Rattle.session_laws.specs.Answers.{RepliesTo}
use Rattle.session_laws.specs.Seats.{PlainReply, Refused, Seat, seat_at, seat_reply}
use Rattle.session_laws.specs.Serving.{Serving, spell_plain_reply, turn_text, turn_then}

-- what the batches that are pinned for a seat show to its key, or why they don't: for every key
unfoldable pub pinned_view : List ℕ → Journal → Seat → Result (List Line) Failure
pinned_view owner m seat = view_with (Holder (record { 0 = seat.holder }) seat.key) (Ok (take seat.pinned (log_of owner m)))

-- the reply to who shows a seat: that it hasn't read all that is pinned, or what these batches show to its key
pub record ShowsSeat (owner : List ℕ) (m : Journal) (seat : Seat) (reply : PlainReply) : Type 0 where
  pub unread : seat.read < seat.pinned → reply ≡ Refused NotRead
  pub all_read : seat.pinned ≤ seat.read → RepliesTo (pinned_view owner m seat) reply

abbrev pub ShowsTo : List ℕ → Journal → Option Seat → PlainReply → Type 0
ShowsTo owner m None reply = reply ≡ Refused NoSession
ShowsTo owner m (Some seat) reply = ShowsSeat owner m seat reply

-- the reply to a session's line
abbrev pub AnswersAsk : List ℕ → Journal → List Seat → SeatAsk → PlainReply → Type 0
AnswersAsk owner m seats (Shows n) reply = ShowsTo owner m (seat_at seats n) reply
AnswersAsk owner m seats ask reply = reply ≡ seat_reply m seats ask

-- what is printed to a line
abbrev pub AnswersTurn : List ℕ → Limits → Serving → Turn → List ℕ → Type 0
AnswersTurn owner limits s (ToOwner task) text = text ≡ turn_text limits s (ToOwner task)
AnswersTurn owner limits s (ToSeat ask) text =
    (reply : PlainReply) × AnswersAsk owner s.going.journal s.seats ask reply × (text ≡ spell_plain_reply reply)

-- what is printed to lines, one after another
abbrev pub AnswersTurns : List ℕ → Limits → Serving → List Turn → List ℕ → Type 0
AnswersTurns owner limits s [] text = text ≡ []
AnswersTurns owner limits s (t ∷ turns) text = (first rest : List ℕ) × (text ≡ first ++ rest) × AnswersTurn owner limits s t first
    × AnswersTurns owner limits (turn_then limits s t) turns rest
