-- What `serve` promises. It opens the store with the key that the first line hands in, and answers each line before the next is read: the
-- owner's as `run` does, and those of sessions, in which readers stay who read the log batch by batch.
--
-- Whatever the disk shows: line 1 is bad where it hands in no key, and there alone. The lines behind the first are begun in their order, up
-- to a bad one or a fault. Either the store was opened: then its owner went through the owner's lines, and each session's line did what
-- specs/Seating says while the disk showed what it shows, and only read; and the replies to them, in the order of the lines, are what was
-- printed (specs/Went). Where no line was the owner's the disk was only read behind the opening, at each moment, and nothing was drawn. Or
-- the store wasn't opened, and nothing was drawn or printed. A verdict on its bytes is answered exactly, or is that of a session's reading
-- behind the opening.
--
-- On a disk that shows a journal the lines are answered as the definition of seats says over that journal's session (`session_laws`:
-- specs/Serving), and the disk is where that session stands (specs/Serves), with what a stop may leave at each moment, as for `run`. A
-- session's reading answers there no verdict, unless a session's key has a holder's check and isn't the holder's.
use Rattle.std.specs.Prelude.{◌≡◌, ◌≢◌, ◌≤◌, ◌⊎◌, ℕ, false, List, [], length, Option, None, IsTrue, Result}
use Rattle.batch_log.specs.Moments.{FromThenOn}
use Rattle.commit_journal.specs.Holding.{GoesOn}
use Rattle.cry_base.specs.Requests.{Request}
use Rattle.cry_io.specs.Reading.{IsOnlyRead}
use Rattle.cry_io.specs.Stops.{IsDurable}
use Rattle.cry_io.specs.Told.{WhereTold, WhereBothTold}
use Rattle.log_visits.specs.declared.fault.ClientFault.{ClientFault}
use Rattle.script_text.specs.Seats.{Turn}
use Rattle.store_owner.specs.Owned.{OwnerView}
use Rattle.cli_base.specs.Reading.{reading_status}
use Rattle.cli_base.specs.World.{Senses, World}
use Rattle.cli_base.specs.declared.status.Status.{Status}
use Rattle.cli_base.specs.declared.status.Status.TheVariants as statuses
use Rattle.cli_running.specs.Published.{PublishesTyped}
use Rattle.cli_running.specs.Running.{FirstIsBad, HandsInFirst, JudgesTyped, TakesTo, TellsVersion, is_after_opening, is_before_opening}
use Rattle.cli_running.specs.Running.{is_run_answer, key_in_lines, lines_in, lines_typed}
use Rattle.cli_sessions.specs.Acting.{AnswersAt, FailsAt, Place, StandsAt, place_of}
use Rattle.cli_sessions.specs.Opening.{IsOfVersion, LeavesUnopened, WasOpened}
use Rattle.cli_sessions.specs.Sessions.{RanDry, seen_between}
use Rattle.cli_serving.specs.Lines.{AskNoOwner, BeginsLines, HasBadTurn, ReadsAllTyped, serve_status, turn_ended}
use Rattle.cli_serving.specs.Serves.{ServesTyped}
use Rattle.cli_serving.specs.Went.{ServeWent}
use Rattle.cli_serving.specs.declared.serve_fault.ServeFault.{ServeFault}

-- How the owner and the sessions went through lines, on whatever bytes the store was opened: what was begun, and answered each time;
-- how the lines ended; and what was printed of that.
pub record TurnsRan (status : Status) (turns : List Turn) (asked : List Request) (start : Place)
    (left shown written_before written_after : Option (List ℕ)) : Type 0 where
  pub result : Result (Unit {0}) ServeFault
  pub ends_so : status ≡ serve_status result
  pub becomes : OwnerView
  pub went : ServeWent AnswersAt FailsAt StandsAt (λ x y. y ≡ x) (λ (x : Place). x.shown) result start (place_of becomes left shown)
      turns asked written_before written_after

-- The store was opened, under a key that the first line hands in; and then its owner and the sessions went through the lines, where it
-- isn't of version 1.
pub record ServesOpened {S R D W : Type 0} (see : Senses S R D W) (status : Status) (turns : List Turn) (asked : List Request)
    (before after : World S R D W) : Type 0 where
  pub key : List ℕ
  pub owner : OwnerView
  pub opened : D
  pub hands_in : WhereTold (see.inputs.left before.input) (λ bytes. HandsInFirst bytes key)
  pub opening : WasOpened see.disks key owner before.disk opened
  pub settled : status ≢ statuses.DiskFault → IsDurable (see.disks.may_leave after.disk) (see.disks.shown after.disk)
  pub refused : status ≡ statuses.NeedsUpgrade
      → (owner.state.keys.version ≡ 1) × (after ≡ record before { input = after.input; disk = opened })
  pub taken : status ≢ statuses.NeedsUpgrade → owner.state.keys.version ≢ 1
  pub suits : status ≢ statuses.NeedsUpgrade
      → IsOfVersion HandsInFirst 2 (see.inputs.left before.input) (see.disks.shown before.disk)
  pub ran : status ≢ statuses.NeedsUpgrade → TurnsRan status turns asked
      (place_of owner (see.randoms.left before.random) (see.disks.shown opened)) (see.randoms.left after.random)
      (see.disks.shown after.disk) (see.outs.written before.out) (see.outs.written after.out)
  -- where no line was the owner's
  pub only_read : AskNoOwner turns → (after.random ≡ before.random) × IsOnlyRead see.disks opened after.disk

-- it ended in a session's line, whose reading met a fault
abbrev pub IsOfReading : Status → List Turn → Type 0
IsOfReading status turns = (turns ≢ []) × (met : ClientFault) × (status ≡ reading_status met)

-- the verdict is that on opening, or of a session's reading behind it
abbrev pub JudgesServed : Status → List ℕ → List ℕ → List Turn → Type 0
JudgesServed status typed image turns = JudgesTyped status typed image ⊎ IsOfReading status turns

-- how a call of `serve` ends
pub record ServeEnds {S R D W : Type 0} (see : Senses S R D W) (status : Status) (before after : World S R D W) : Type 0 where
  -- when each answer comes
  pub answers : IsTrue (is_run_answer status)
  pub first_line : WhereTold (see.inputs.left before.input) (λ typed. key_in_lines (lines_in typed) ≡ None → FirstIsBad status)
  pub key_line : status ≡ statuses.BadScript 1 → WhereTold (see.inputs.left before.input) (λ typed. key_in_lines (lines_in typed) ≡ None)
  pub version : TellsVersion status (see.inputs.left before.input) (see.disks.shown before.disk)
  pub bad_line : WhereTold (see.inputs.left before.input) (λ typed. HasBadTurn (lines_typed typed) → status ≢ statuses.Done)
  pub short : (left need : ℕ) → status ≡ statuses.RandomShort left need
      → RanDry left need (see.randoms.left before.random) (see.randoms.left after.random)
  -- which lines are begun, what the owner is asked of them, and what is taken of the input: the same in all that is said
  pub turns : List Turn
  pub asked : List Request
  pub judged : WhereTold (see.inputs.left before.input) (λ typed. WhereTold (see.disks.shown before.disk) (λ image.
      JudgesServed status typed image turns))
  pub lines : WhereTold (see.inputs.left before.input) (λ typed. BeginsLines status turns (lines_typed typed))
  pub takes : WhereBothTold (see.inputs.left before.input) (see.inputs.left after.input) (TakesTo (turn_ended status (length turns)))
  pub read_to_end : status ≡ statuses.Done → WhereTold (see.inputs.left after.input) (λ rest. rest ≡ [])
  pub read_whole_lines : status ≡ statuses.ReadFault
      → WhereBothTold (see.inputs.left before.input) (see.inputs.left after.input) (ReadsAllTyped turns)
  -- what it leaves
  pub served : WhereTold (see.inputs.left before.input) (λ typed. ServesTyped status turns asked typed (seen_between see before after)
      (see.disks.may_leave before.disk) (see.disks.since after.disk (see.disks.moment before.disk)) (see.disks.may_leave after.disk))
  pub published : WhereTold (see.inputs.left before.input) (λ typed. PublishesTyped typed (see.disks.shown before.disk)
      (see.disks.may_leave before.disk) (FromThenOn see.disks.moment see.disks.since before.disk after.disk))
  pub later : see.disks.moment before.disk ≤ see.disks.moment after.disk
  pub time : GoesOn (see.disks.moment before.disk) (see.disks.since before.disk) (see.disks.since after.disk)
  pub stays : IsTrue (is_after_opening status) → IsDurable (see.disks.may_leave after.disk) (see.disks.shown after.disk)
  pub opening : LeavesUnopened HandsInFirst see status before after × (is_after_opening status ≡ false) × (turns ≡ []) × (asked ≡ [])
      ⊎ ServesOpened see status turns asked before after
  pub unasked : status ≡ statuses.NeedsUpgrade → after ≡ record before { input = after.input; disk = after.disk }
  pub unopened : IsTrue (is_before_opening status) → after ≡ record before { input = after.input }
