-- What `serve` prints and leaves on a disk that shows a journal. This project's own, docs/PROGRAM.md, "The program".
use Rattle.std.specs.Prelude.{◌≡◌, ◌<◌, ◌≤◌, ◌⊎◌, ◌*◌, ◌++◌, ℕ, List, [], ◌∷◌, length, take, Some, None}
use Rattle.commit_journal.specs.Holding.{IsPrefix}
use Rattle.cry_base.specs.Requests.{Request}
use Rattle.cry_base.specs.declared.commands.Reply.{Reply}
use Rattle.cry_base.specs.declared.limits.Limits.{Limits}
use Rattle.cry_io.specs.Told.{WhereTold, WhereBothTold}
use Rattle.group_book.specs.Asked.{asked_of}
use Rattle.journal_bytes.specs.Journals.{HoldsBetween, ShowsJournal}
use Rattle.journal_bytes.specs.Script.{answer, draws_of, journal_then, opened, script_going, script_replies}
use Rattle.log_visits.specs.Answering.{IsFailure}
use Rattle.log_visits.specs.declared.fault.ClientFault.{ClientFault}
use Rattle.log_visits.specs.declared.fault.ClientFault.TheVariants as client
use Rattle.public_fold.specs.Journal.{Journal}
use Rattle.script_text.specs.Seats.{SeatAsk, Turn}
use Rattle.script_text.specs.Seats.SeatAsk.{Shows}
use Rattle.script_text.specs.Seats.Turn.{ToOwner, ToSeat}
use Rattle.script_text.specs.Tasks.{Task}
use Rattle.session_laws.specs.Replying.{AnswersTurns, pinned_view}
use Rattle.session_laws.specs.Seats.{Seat, seat_at}
use Rattle.session_laws.specs.Serving.{HaveHonestKeys, IsHonestKey, served_text, served_then}
use Rattle.store_owner.specs.Drawing.{AreKeys, joined}
use Rattle.cli_base.specs.declared.status.Status.{Status}
use Rattle.cli_base.specs.declared.status.Status.TheVariants as statuses
use Rattle.cli_running.specs.Running.{key_in_lines, lines_in}
use Rattle.cli_sessions.specs.Script.{PrintsCut, spell_replies}
use Rattle.cli_sessions.specs.Sessions.{DrawsNext, IsUnopened, LeavesAt, Seen, SessionOver, version_limits}
use Rattle.cli_sessions.specs.Stopping.{KeepsUpTo}
use Rattle.cli_serving.specs.Served.{HasServed, serving_over, turns_ask}

abbrev pub PrintsText : List ℕ → Seen → Type 0
PrintsText text seen = WhereBothTold seen.written_before seen.written_after (λ b a. a ≡ b ++ text)

-- a front of the text was printed, with all that was printed to the lines before the last
abbrev pub PrintsFrontOf : List ℕ → List ℕ → Seen → Type 0
PrintsFrontOf first last seen = WhereBothTold seen.written_before seen.written_after (λ b a. (n : ℕ) × (a ≡ b ++ (first ++ take n last)))

-- The lines that were begun were done, and what they are answered is printed.
pub record ServesAll (limits : Limits) (key : List ℕ) (m : Journal) (turns : List Turn) (asked : List Request) (seen : Seen)
    (may_leave : List ℕ → Type 0) (KeepsTo : Journal → Type 0) : Type 0 where
  pub text : List ℕ
  pub served : HasServed limits key m turns asked text seen may_leave KeepsTo
  pub prints : PrintsText text seen

-- The last one is a session's, and of what it is answered a front is printed, behind all that the lines before it are.
pub record ServesCut (limits : Limits) (key : List ℕ) (m : Journal) (turns : List Turn) (asked : List Request) (seen : Seen)
    (may_leave : List ℕ → Type 0) (KeepsTo : Journal → Type 0) : Type 0 where
  pub front : List Turn
  pub ask : SeatAsk
  pub turns_are : turns ≡ front ++ ToSeat ask ∷ []
  pub first : List ℕ
  pub last : List ℕ
  pub served : HasServed limits key m turns asked (first ++ last) seen may_leave KeepsTo
  pub answered_first : (rest : List ℕ) → AnswersTurns key limits (serving_over m (joined served.session.drawn ++ rest)) front first
  pub answers_first : HaveHonestKeys served.session.now turns
      → (rest : List ℕ) → served_text limits (serving_over m (joined served.session.drawn ++ rest)) front ≡ first
  pub prints : PrintsFrontOf first last seen

-- The lines before the last were done, and what they are answered is printed. The last one shows the session with this number, which has
-- read all that is pinned; and what the batches that are pinned show to its key is this fault, though the disk shows the journal. So its
-- key has the check of a holder's, and isn't the holder's.
pub record ServesAmiss (met : ClientFault) (n : ℕ) (limits : Limits) (key : List ℕ) (m : Journal) (turns : List Turn) (asked : List Request)
    (seen : Seen) (may_leave : List ℕ → Type 0) (KeepsTo : Journal → Type 0) : Type 0 where
  pub all : ServesAll limits key m turns asked seen may_leave KeepsTo
  pub seat : Seat
  pub seat_is : (rest : List ℕ)
      → seat_at (served_then limits (serving_over m (joined all.served.session.drawn ++ rest)) turns).seats n ≡ Some seat
  pub all_read : seat.pinned ≤ seat.read
  pub fails : IsFailure met (pinned_view key all.served.session.now seat)
  pub dishonest : IsHonestKey all.served.session.now seat.holder seat.key → ⊥
  pub amiss : HaveHonestKeys all.served.session.now turns → ⊥

-- The last line is the owner's, of whose commands the first were answered: these are the last ones of those that were asked, and behind the
-- lines before it they are replied so. What those lines are answered is printed, and then these replies, as far as is said.
pub record ServesTo (limits : Limits) (key : List ℕ) (m : Journal) (turns : List Turn) (asked : List Request) (seen : Seen)
    (Prints : List ℕ → List Reply → Type 0) : Type 0 where
  pub first : List Turn
  pub task : Task
  pub turns_are : turns ≡ first ++ ToOwner task ∷ []
  pub first_asked : List Request
  pub some : List Request
  pub asked_are : asked ≡ first_asked ++ some
  pub text : List ℕ
  pub replies : List Reply
  pub session : SessionOver limits m asked
  pub asks_first : (rest : List ℕ) → turns_ask limits (serving_over m (joined session.drawn ++ rest)) first ≡ first_asked
  pub goes_first : (rest : List ℕ) → (served_then limits (serving_over m (joined session.drawn ++ rest)) first).going
      ≡ script_going limits (opened m (joined session.drawn ++ rest)) first_asked
  pub stood : (rest : List ℕ)
      → IsPrefix some (asked_of limits (script_going limits (opened m (joined session.drawn ++ rest)) first_asked) task)
  pub replied : (rest : List ℕ)
      → script_replies limits (script_going limits (opened m (joined session.drawn ++ rest)) first_asked) some ≡ replies
  pub answered : (rest : List ℕ) → AnswersTurns key limits (serving_over m (joined session.drawn ++ rest)) first text
  pub answers : HaveHonestKeys session.now turns
      → (rest : List ℕ) → served_text limits (serving_over m (joined session.drawn ++ rest)) first ≡ text
  pub prints : Prints text replies

-- all replies but some of the last are printed, and the disk is where the session stands
pub record ServesLast (limits : Limits) (key : List ℕ) (m : Journal) (turns : List Turn) (asked : List Request) (seen : Seen)
    (may_leave : List ℕ → Type 0) (KeepsTo : Journal → Type 0) : Type 0 where
  pub to : ServesTo limits key m turns asked seen
      (λ text replies. WhereBothTold seen.written_before seen.written_after (λ b a. PrintsCut replies (b ++ text) a))
  pub draws : DrawsNext to.session.drawn seen
  pub leaves : LeavesAt key m to.session.now seen may_leave
  pub kept : KeepsTo to.session.now

abbrev pub PrintsAllOf : Seen → List ℕ → List Reply → Type 0
PrintsAllOf seen text replies = PrintsText (text ++ spell_replies replies) seen

-- the line's next command is accepted where the session stands
pub record ServesNext (limits : Limits) (key : List ℕ) (m : Journal) (turns : List Turn) (asked : List Request) (seen : Seen) : Type 0 where
  pub to : ServesTo limits key m turns asked seen (PrintsAllOf seen)
  pub next : Request
  pub stood : (rest : List ℕ) → IsPrefix (to.some ++ next ∷ [])
      (asked_of limits (script_going limits (opened m (joined to.session.drawn ++ rest)) to.first_asked) to.task)
  pub is_accepted : answer limits to.session.now to.session.begun next ≡ None

-- for that one random bytes were wanting, or the random source failed, and the disk is where the session stands
pub record ServesShort (limits : Limits) (key : List ℕ) (m : Journal) (turns : List Turn) (asked : List Request) (left need : ℕ)
    (seen : Seen) (may_leave : List ℕ → Type 0) (KeepsTo : Journal → Type 0) : Type 0 where
  pub ran : ServesNext limits key m turns asked seen
  pub is_need : need ≡ 32 * draws_of ran.to.session.now ran.next
  pub is_short : left < need
  pub were_left : WhereTold seen.left_before (λ x. (last : List ℕ) × (x ≡ joined ran.to.session.drawn ++ last) × (length last ≡ left))
  pub nothing_left : WhereTold seen.left_after (λ y. y ≡ [])
  pub leaves : LeavesAt key m ran.to.session.now seen may_leave
  pub kept : KeepsTo ran.to.session.now

pub record ServesUndrawn (limits : Limits) (key : List ℕ) (m : Journal) (turns : List Turn) (asked : List Request) (seen : Seen)
    (may_leave : List ℕ → Type 0) (KeepsTo : Journal → Type 0) : Type 0 where
  pub ran : ServesNext limits key m turns asked seen
  pub drew : WhereTold seen.left_before (λ x. (more : List ℕ) × (x ≡ joined ran.to.session.drawn ++ more))
  pub leaves : LeavesAt key m ran.to.session.now seen may_leave
  pub kept : KeepsTo ran.to.session.now

-- or it drew its keys and met a fault of the disk, which leaves the journal as it was, or with the session begun, or with the command too
pub record ServesUnwritten (limits : Limits) (key : List ℕ) (m : Journal) (turns : List Turn) (asked : List Request) (seen : Seen)
    (may_leave : List ℕ → Type 0) (KeepsTo : Journal → Type 0) : Type 0 where
  pub ran : ServesNext limits key m turns asked seen
  pub last : List (List ℕ)
  pub last_count : length last ≡ draws_of ran.to.session.now ran.next
  pub last_sizes : AreKeys last
  pub draws : DrawsNext (ran.to.session.drawn ++ last) seen
  pub holds : HoldsBetween key ran.to.session.now (journal_then ran.to.session.now ran.to.session.begun ran.next last) seen.shown may_leave
  pub kept : KeepsTo (journal_then ran.to.session.now ran.to.session.begun ran.next last)

-- How `serve` ends on a disk that shows a journal, where the input tells, and these lines were begun, of which the owner was asked this.
-- Where a session's reading met a fault of the disk, or memory was wanting, what was answered before is printed, and the disk is where the
-- session stands.
abbrev pub Serves : Status → Limits → List ℕ → Journal → List Turn → List Request → Seen → (List ℕ → Type 0) → (Journal → Type 0) → Type 0
Serves statuses.Done limits key m turns asked seen may_leave KeepsTo = ServesAll limits key m turns asked seen may_leave KeepsTo
Serves (statuses.BadScript line) limits key m turns asked seen may_leave KeepsTo = ServesAll limits key m turns asked seen may_leave KeepsTo
Serves statuses.NeedsUpgrade limits key m turns asked seen may_leave KeepsTo =
    (turns ≡ []) × ServesAll limits key m turns asked seen may_leave KeepsTo
Serves statuses.ReadFault limits key m turns asked seen may_leave KeepsTo = (turns ≡ []) × (asked ≡ []) × IsUnopened key m seen KeepsTo
    ⊎ ServesAll limits key m turns asked seen may_leave KeepsTo
Serves statuses.WriteFault limits key m turns asked seen may_leave KeepsTo = ServesCut limits key m turns asked seen may_leave KeepsTo
    ⊎ ServesLast limits key m turns asked seen may_leave KeepsTo
Serves (statuses.RandomShort left need) limits key m turns asked seen may_leave KeepsTo =
    ServesShort limits key m turns asked left need seen may_leave KeepsTo
Serves statuses.RandomFault limits key m turns asked seen may_leave KeepsTo = ServesUndrawn limits key m turns asked seen may_leave KeepsTo
Serves statuses.DiskFault limits key m turns asked seen may_leave KeepsTo = (turns ≡ []) × (asked ≡ []) × IsUnopened key m seen KeepsTo
    ⊎ (((first : List Turn) × (t : Turn) × (turns ≡ first ++ t ∷ []) × ServesAll limits key m first asked seen may_leave KeepsTo)
    ⊎ ServesUnwritten limits key m turns asked seen may_leave KeepsTo)
Serves statuses.OutOfMemory limits key m turns asked seen may_leave KeepsTo = (turns ≡ []) × (asked ≡ []) × IsUnopened key m seen KeepsTo
    ⊎ (((first more : List Turn) × (turns ≡ first ++ more) × ServesAll limits key m first asked seen may_leave KeepsTo)
    ⊎ (ServesCut limits key m turns asked seen may_leave KeepsTo ⊎ ServesLast limits key m turns asked seen may_leave KeepsTo))
Serves statuses.NotAStore limits key m turns asked seen may_leave KeepsTo = ⊥
Serves statuses.WrongKey limits key m turns asked seen may_leave KeepsTo = ⊥
Serves (statuses.Damaged at) limits key m turns asked seen may_leave KeepsTo =
    (first : List Turn) × (n : ℕ) × (turns ≡ first ++ ToSeat (Shows n) ∷ [])
    × ServesAmiss (client.Damaged at) n limits key m first asked seen may_leave KeepsTo
Serves (statuses.Tampered batch at) limits key m turns asked seen may_leave KeepsTo =
    (first : List Turn) × (n : ℕ) × (turns ≡ first ++ ToSeat (Shows n) ∷ [])
    × ServesAmiss (client.Tampered batch at) n limits key m first asked seen may_leave KeepsTo
Serves _ limits key m turns asked seen may_leave KeepsTo = ⊥

-- so for each journal with the key that the first line hands in
abbrev pub ServesTyped : Status → List Turn → List Request → List ℕ → Seen → (List ℕ → Type 0) → (List ℕ → List ℕ → Type 0)
    → (List ℕ → Type 0) → Type 0
ServesTyped status turns asked typed seen could_leave since may_leave = (key : List ℕ) (m : Journal)
    → key_in_lines (lines_in typed) ≡ Some key → ShowsJournal key m seen.was
    → Serves status version_limits key m turns asked seen may_leave (KeepsUpTo key m seen.was seen.shown could_leave since)
