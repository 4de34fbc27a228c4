-- Replies to sessions' lines, as the code has them and as the definition of seats says.
use Rattle.std.specs.Prelude.{◌≡◌, List, Result, Ok, Err}
use Rattle.commit_journal.specs.Answering as fault
use Rattle.log_visits.specs.Judging.{Failure, OfBytes}
use Rattle.log_visits.specs.Judging as failure
use Rattle.log_visits.specs.View.{Line}
use Rattle.script_text.specs.declared.seats.SeatRefusal.TheVariants.{NoHolder, WrongKey}
use Rattle.holder_client.specs.Lines.{plain_view}
use Rattle.script_text.specs.declared.seats.SeatReply.{SeatReply}
use Rattle.script_text.specs.declared.seats.SeatReply.TheVariants as replies
use Rattle.session_laws.specs.Seats.{PlainReply, Begun, HasPinned, HasRead, Refused, Shown}

-- the reply to who was shown this, or was told why not. No other failure has a reply
abbrev pub RepliesTo : Result (List Line) Failure → PlainReply → Type 0
RepliesTo (Ok lines) reply = reply ≡ Shown lines
RepliesTo (Err (failure.NoHolder known)) reply = reply ≡ Refused NoHolder
RepliesTo (Err (OfBytes fault.WrongKey)) reply = reply ≡ Refused WrongKey
RepliesTo (Err _) reply = ⊥

-- a reply of the code, without the room that its lines have beside their bytes
abbrev pub plain_reply : SeatReply → PlainReply
plain_reply (replies.Begun seat pinned) = Begun seat pinned
plain_reply (replies.HasRead read pinned) = HasRead read pinned
plain_reply (replies.HasPinned pinned) = HasPinned pinned
plain_reply (replies.Shown lines) = Shown (plain_view lines)
plain_reply (replies.Refused why) = Refused why
