-- What `serve` leaves and prints over a journal. This project's own, docs/PROGRAM.md, "The program".
use Rattle.std.specs.Prelude.{◌≡◌, ◌++◌, ℕ, List, [], ◌∷◌}
use Rattle.cry_base.specs.Requests.{Request}
use Rattle.cry_base.specs.declared.limits.Limits.{Limits}
use Rattle.group_book.specs.Asked.{asked_of}
use Rattle.journal_bytes.specs.Script.{opened}
use Rattle.public_fold.specs.Journal.{Journal}
use Rattle.script_text.specs.Seats.{Turn}
use Rattle.script_text.specs.Seats.Turn.{ToOwner, ToSeat}
use Rattle.session_laws.specs.Replying.{AnswersTurns}
use Rattle.session_laws.specs.Serving.{HaveHonestKeys, Serving, served_text, served_then, turn_then}
use Rattle.store_owner.specs.Drawing.{joined}
use Rattle.cli_sessions.specs.Sessions.{DrawsNext, LeavesAt, Seen, SessionOver}

-- `serve` over a journal, with these random bytes: the owner's session is begun, and no reader's is
abbrev pub serving_over : Journal → List ℕ → Serving
serving_over m draws = record { going = opened m draws; seats = [] }

-- what the owner is asked by a line, and by lines, one after another
unfoldable pub turn_asks : Limits → Serving → Turn → List Request
turn_asks limits s (ToOwner t) = asked_of limits s.going t
turn_asks limits s (ToSeat ask) = []

unfoldable pub turns_ask : Limits → Serving → List Turn → List Request
turns_ask limits s [] = []
turns_ask limits s (t ∷ turns) = turn_asks limits s t ++ turns_ask limits (turn_then limits s t) turns

-- The owner's session over a journal goes as these lines say, of which its commands are those that were asked. The text answers the lines,
-- whatever keys the sessions have. If a session's key that has the check of a holder's is the holder's, it is the definition's.
pub record HasServed (limits : Limits) (key : List ℕ) (m : Journal) (turns : List Turn) (asked : List Request) (text : List ℕ)
    (seen : Seen) (may_leave : List ℕ → Type 0) (KeepsTo : Journal → Type 0) : Type 0 where
  pub session : SessionOver limits m asked
  pub goes : (rest : List ℕ) → (served_then limits (serving_over m (joined session.drawn ++ rest)) turns).going
      ≡ record { journal = session.now; begun = session.begun; draws = rest }
  pub asks : (rest : List ℕ) → turns_ask limits (serving_over m (joined session.drawn ++ rest)) turns ≡ asked
  pub draws : DrawsNext session.drawn seen
  pub leaves : LeavesAt key m session.now seen may_leave
  pub kept : KeepsTo session.now
  pub answered : (rest : List ℕ) → AnswersTurns key limits (serving_over m (joined session.drawn ++ rest)) turns text
  pub prints : HaveHonestKeys session.now turns
      → (rest : List ℕ) → served_text limits (serving_over m (joined session.drawn ++ rest)) turns ≡ text
