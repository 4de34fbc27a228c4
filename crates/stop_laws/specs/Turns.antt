-- What lines of `serve` make of a journal, and what they are answered. This project's own, docs/MODEL.md.
--
-- The owner's session over m goes through the lines as the definition of seats says (`session_laws`: specs/Serving); a line of a reader's
-- session leaves the journal as it is. A call may end in a line of the owner's, of whose commands some first ones were answered.
use Rattle.std.specs.Prelude.{◌≡◌, ℕ, Bool, List, [], ◌∷◌, ◌++◌, Option}
use Rattle.commit_journal.specs.Holding.{IsPrefix}
use Rattle.cry_base.specs.Requests.{Request}
use Rattle.cry_base.specs.declared.commands.Reply.{Reply}
use Rattle.cry_base.specs.declared.limits.Limits.{Limits}
use Rattle.cry_io.specs.Told.{WhereBothTold}
use Rattle.cli_base.specs.Outside.{PrintsFront}
use Rattle.cli_serving.specs.Served.{serving_over}
use Rattle.cli_sessions.specs.Script.{spell_replies}
use Rattle.cli_sessions.specs.Sessions.{version_limits}
use Rattle.group_book.specs.Asked.{asked_of}
use Rattle.journal_bytes.specs.Script.{Going, script_going, script_replies}
use Rattle.public_fold.specs.Journal.{Journal}
use Rattle.script_text.specs.Seats.{Turn}
use Rattle.script_text.specs.Seats.Turn.{ToOwner, ToSeat}
use Rattle.session_laws.specs.Replying.{AnswersTurns}
use Rattle.session_laws.specs.Serving.{served_then}
use Rattle.store_owner.specs.Drawing.{AreKeys, joined}

-- These are the first commands that the next line stands for, where the owner's session stands. None are asked by a session's line.
abbrev pub BeginsNext : Limits → Going → List Request → List Turn → Type 0
BeginsNext limits g [] rest = Unit {0}
BeginsNext limits g (r ∷ some) [] = ⊥
BeginsNext limits g (r ∷ some) (ToOwner task ∷ rest) = IsPrefix (r ∷ some) (asked_of limits g task)
BeginsNext limits g (r ∷ some) (ToSeat ask ∷ rest) = ⊥

-- the owner's session behind these lines over m, with these keys drawn and then whatever other random bytes
abbrev pub owner_behind : Journal → List (List ℕ) → List ℕ → List Turn → Going
owner_behind m drawn draws done = (served_then version_limits (serving_over m (joined drawn ++ draws)) done).going

-- The first of these lines were done over m, one after another, and of the next one maybe the first commands. The keys that were drawn for
-- what was accepted are of 32 bytes each; and this is the journal that was made.
pub record GoesThrough (m : Journal) (turns : List Turn) : Type 0 where
  pub done : List Turn
  pub rest : List Turn
  pub turns_are : turns ≡ done ++ rest
  pub some : List Request
  pub drawn : List (List ℕ)
  pub drawn_sizes : AreKeys drawn
  pub begins : (draws : List ℕ) → BeginsNext version_limits (owner_behind m drawn draws done) some rest
  pub now : Journal
  pub begun : Bool
  pub goes : (draws : List ℕ) → script_going version_limits (owner_behind m drawn draws done) some
      ≡ record { journal = now; begun = begun; draws = draws }

-- the journal is what the first of these lines made of m, or a front of it
pub record IsServedOf (m : Journal) (turns : List Turn) (j : Journal) : Type 0 where
  pub made : GoesThrough m turns
  pub front : IsPrefix j made.now

-- All that was printed to these lines over m is what the first of them are answered, or a front of it; and the journal begins with all
-- that these made of m. So it is whatever keys the sessions have: only what a session shows hangs on its key.
pub record AnsweredTurns (key : List ℕ) (m : Journal) (turns : List Turn) (written_before written_after : Option (List ℕ)) (j : Journal)
    : Type 0 where
  pub made : GoesThrough m turns
  pub text : List ℕ
  pub answered : (draws : List ℕ) → AnswersTurns key version_limits (serving_over m (joined made.drawn ++ draws)) made.done text
  pub replies : List Reply
  pub replied : (draws : List ℕ) → script_replies version_limits (owner_behind m made.drawn draws made.done) made.some ≡ replies
  pub prints : WhereBothTold written_before written_after (PrintsFront (text ++ spell_replies replies))
  pub holds : IsPrefix made.now j
