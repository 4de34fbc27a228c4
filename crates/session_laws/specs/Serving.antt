-- One owner and many readers, who take turns on one store. This project's own, docs/PROGRAM.md, "Lines".
use Rattle.std.specs.Prelude.{◌≡◌, ℕ, List, [], ◌∷◌, ◌++◌, Some}
use Rattle.std.specs.List.{flat_map}
use Rattle.chacha_seal.specs.Sealing.{check_of}
use Rattle.cry_base.specs.Sets.{In}
use Rattle.cry_base.specs.Store.{HolderEntry, holder_entry}
use Rattle.cry_base.specs.declared.limits.Limits.{Limits}
use Rattle.group_book.specs.Asked.{asked_of}
use Rattle.journal_bytes.specs.Script.{Going, script_going, script_replies}
use Rattle.log_visits.specs.View.{spell_view}
use Rattle.public_fold.specs.Journal.{Journal, store_of}
use Rattle.script_text.specs.Printing.{spell_reply}
use Rattle.script_text.specs.Seats.{Turn, end_line, pinned_line, read_line, session_line, unserved_line}
use Rattle.script_text.specs.Seats.SeatAsk.{Begins}
use Rattle.script_text.specs.Seats.Turn.{ToOwner, ToSeat}
use Rattle.session_laws.specs.Seats.{Seat, PlainReply, Begun, HasPinned, HasRead, IsWithin, Refused, Shown, seat_reply, seats_then}

-- the owner's session, and the seats
pub record Serving : Type 0 where
  pub going : Going
  pub seats : List Seat

-- a reply to a session's line, as it is printed
unfoldable pub spell_plain_reply : PlainReply → List ℕ
spell_plain_reply (Begun seat pinned) = session_line seat pinned
spell_plain_reply (HasRead read pinned) = read_line read pinned
spell_plain_reply (HasPinned pinned) = pinned_line pinned
spell_plain_reply (Shown lines) = spell_view lines ++ end_line
spell_plain_reply (Refused why) = unserved_line why

-- what is printed to one line, and what stands behind it
unfoldable pub turn_text : Limits → Serving → Turn → List ℕ
turn_text limits s (ToOwner t) = flat_map spell_reply (script_replies limits s.going (asked_of limits s.going t))
turn_text limits s (ToSeat ask) = spell_plain_reply (seat_reply s.going.journal s.seats ask)

unfoldable pub turn_then : Limits → Serving → Turn → Serving
turn_then limits s (ToOwner t) = record { going = script_going limits s.going (asked_of limits s.going t); seats = s.seats }
turn_then limits s (ToSeat ask) = record { going = s.going; seats = seats_then s.going.journal s.seats ask }

-- what is printed to lines, one after another, and what stands behind them
unfoldable pub served_text : Limits → Serving → List Turn → List ℕ
served_text limits s [] = []
served_text limits s (t ∷ turns) = turn_text limits s t ++ served_text limits (turn_then limits s t) turns

unfoldable pub served_then : Limits → Serving → List Turn → Serving
served_then limits s [] = s
served_then limits s (t ∷ turns) = served_then limits (turn_then limits s t) turns

-- of no seat more entries were read than are pinned, and there are these
abbrev pub AreWithin : Serving → Type 0
AreWithin s = (seat : Seat) → In seat s.seats → IsWithin s.going.journal seat

-- a key with the check of the holder's is the holder's
abbrev pub IsHonestKey : Journal → ℕ → List ℕ → Type 0
IsHonestKey m h key = (e : HolderEntry) → holder_entry (store_of m) h ≡ Some e → check_of e.key ≡ check_of key → key ≡ e.key

-- so each key with which a session is begun
abbrev pub HaveHonestKeys : Journal → List Turn → Type 0
HaveHonestKeys m turns = (h : ℕ) (key : List ℕ) → In (ToSeat (Begins h key)) turns → IsHonestKey m h key
