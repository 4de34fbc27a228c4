-- What `run` promises. It opens the store with the key that the first line hands in, and answers each command before the next is read.
--
-- Whatever the disk shows: line 1 is bad where it hands in no key, and there alone. The bytes of the store are judged exactly. The lines
-- behind the first are answered in their order, up to a bad one or a fault, and these answers are what is printed. The random source is
-- said to end only where it did, in a command's draw. Of the input no more is taken than to the end of the line at which the call ends,
-- and at most 65,536 bytes past it; at a read fault each whole line that it gave was answered. All of this speaks of the same commands and
-- of the same number of lines: a line is answered by its command, or by those that the replacement of a holder stands for. Either the
-- store was opened: under the key of the first line its bytes pass every test. Then its owner went through the lines, and what it answers
-- each time, or needs, hangs on what it read and did alone (`cli_sessions`: specs/Acting); or it is of version 1, the answer is that it
-- needs an upgrade, nothing was asked, drawn or printed, and nothing written but slots that a stop had left without their keys. Or it
-- wasn't opened, and no answer comes that tells of an opened store: nothing was answered, drawn or printed, and at each moment of the call
-- the file is as it was, but for such slots (`cli_sessions`: specs/Opening).
--
-- On a disk that shows a journal it ends as that journal's session does, whatever it ends with, and whether or not the random source tells
-- what it has: there are keys for the accepted commands with which the session goes so. With the same keys it is said what a stop may
-- leave at each moment of the call, and behind it (specs/Stopping). Whatever it ends with, no stop at a moment of it takes back what was
-- published then, or at an earlier moment of it (specs/Published).
use Rattle.std.specs.Prelude.{◌≡◌, ◌≢◌, ◌≤◌, ◌⊎◌, ℕ, List, [], None, IsTrue}
use Rattle.batch_log.specs.Moments.{FromThenOn}
use Rattle.commit_journal.specs.Holding.{GoesOn}
use Rattle.cry_base.specs.Requests.{Request}
use Rattle.cry_io.specs.Stops.{IsDurable}
use Rattle.cry_io.specs.Told.{WhereTold, WhereBothTold}
use Rattle.cli_running.specs.Published.{PublishesTyped}
use Rattle.cli_running.specs.Running.{EndsTyped, FirstIsBad, HasBadLine, JudgesTyped, RanLines, ReadsWholeTyped, TakesTo}
use Rattle.cli_running.specs.Running.{RunsOpened, RunsUnopened, TellsVersion, is_after_opening}
use Rattle.cli_running.specs.Running.{is_before_opening, is_run_answer, key_in_lines, line_ended, lines_in, lines_typed}
use Rattle.cli_sessions.specs.Sessions.{RanDry, seen_between}
use Rattle.cli_base.specs.World.{Senses, World}
use Rattle.cli_base.specs.declared.status.Status.{Status}
use Rattle.cli_base.specs.declared.status.Status.TheVariants as statuses

-- how a call of `run` ends
pub record RunEnds {S R D W : Type 0} (see : Senses S R D W) (status : Status) (before after : World S R D W) : Type 0 where
  -- when each answer comes
  pub answers : IsTrue (is_run_answer status)
  pub first_line : WhereTold (see.inputs.left before.input) (λ typed. key_in_lines (lines_in typed) ≡ None → FirstIsBad status)
  pub key_line : status ≡ statuses.BadScript 1 → WhereTold (see.inputs.left before.input) (λ typed. key_in_lines (lines_in typed) ≡ None)
  pub judged : WhereTold (see.inputs.left before.input) (λ typed. WhereTold (see.disks.shown before.disk) (λ image.
      JudgesTyped status typed image))
  pub version : TellsVersion status (see.inputs.left before.input) (see.disks.shown before.disk)
  pub bad_line : WhereTold (see.inputs.left before.input) (λ typed. HasBadLine (lines_typed typed) → status ≢ statuses.Done)
  pub short : (left need : ℕ) → status ≡ statuses.RandomShort left need
      → RanDry left need (see.randoms.left before.random) (see.randoms.left after.random)
  -- what it is asked and answers, how many lines that answers, and what it takes of the input: the same in all that is said
  pub asked : List Request
  pub answered : ℕ
  pub lines : RanLines status asked answered lines_typed (see.inputs.left before.input) (see.outs.written before.out)
      (see.outs.written after.out)
  pub takes : WhereBothTold (see.inputs.left before.input) (see.inputs.left after.input) (TakesTo (line_ended status answered))
  pub read_to_end : status ≡ statuses.Done → WhereTold (see.inputs.left after.input) (λ rest. rest ≡ [])
  pub read_whole_lines : status ≡ statuses.ReadFault
      → WhereBothTold (see.inputs.left before.input) (see.inputs.left after.input) (ReadsWholeTyped asked answered)
  -- what it leaves
  pub ran : WhereTold (see.inputs.left before.input) (λ typed. EndsTyped status asked typed (seen_between see before after)
      (see.disks.may_leave before.disk) (see.disks.since after.disk (see.disks.moment before.disk)) (see.disks.may_leave after.disk))
  pub published : WhereTold (see.inputs.left before.input) (λ typed. PublishesTyped typed (see.disks.shown before.disk)
      (see.disks.may_leave before.disk) (FromThenOn see.disks.moment see.disks.since before.disk after.disk))
  pub later : see.disks.moment before.disk ≤ see.disks.moment after.disk
  pub time : GoesOn (see.disks.moment before.disk) (see.disks.since before.disk) (see.disks.since after.disk)
  pub stays : IsTrue (is_after_opening status) → IsDurable (see.disks.may_leave after.disk) (see.disks.shown after.disk)
  pub opening : RunsUnopened see status asked answered before after ⊎ RunsOpened see status asked answered before after
  pub unasked : status ≡ statuses.NeedsUpgrade → after ≡ record before { input = after.input; disk = after.disk }
  pub unopened : IsTrue (is_before_opening status) → after ≡ record before { input = after.input }
