-- What `upgrade` promises. It reads the whole input, which is one owner's line, opens the store for writing with that key, and makes it one
-- of version 2, by one batch behind that of an epoch.
--
-- Whatever the disk shows: the first bad line of the input is told, and a holder's line is bad; the bytes of the store are judged exactly.
-- The random source is said to end only where it did, in the one draw. Either the store was opened: under the key of the input its bytes
-- pass every test. Then it is of version 1, and its owner was asked; or the answer is that it is of version 2 already, and nothing was
-- drawn or printed, and nothing written but slots that a stop had left without their keys. What the owner answers hangs on what it read
-- alone, and is what is printed: `ok` where the upgrade was carried out and its batch stands, and nowhere else; `refused full` where its
-- step has no serials left, or its batch would go past the store limit, and nowhere else. Or the store wasn't opened, and no answer comes
-- that tells of an opened store: nothing was drawn or printed, and at each moment of the call the file is as it was, but for such slots
-- (`cli_sessions`: specs/Opening).
--
-- On a disk that shows a journal of version 1 it ends as that journal says, whatever it ends with, and whether or not the random source
-- tells what it has: the upgrade is accepted, and then it replies `ok` and the disk is settled at the journal with it; or it is refused,
-- exactly where the store is too full, and the disk is settled at the journal as it was. With the same keys it is said what a stop may
-- leave at each moment of the call, and behind it: the journal, or it with the session begun, or with the upgrade too; and that the disk is
-- handed these two batches, and nothing else. No stop at a moment of it takes back what was published then, or at an earlier moment of it.
use Rattle.std.specs.Prelude.{◌≡◌, ◌≤◌, ◌⊎◌, ℕ, List, IsTrue}
use Rattle.batch_log.specs.Moments.{FromThenOn}
use Rattle.commit_journal.specs.Holding.{GoesOn}
use Rattle.cry_base.specs.declared.commands.Reply.{Reply}
use Rattle.cry_io.specs.Stops.{IsDurable}
use Rattle.cry_io.specs.Told.{WhereTold, WhereBothTold}
use Rattle.log_visits.specs.Asking.{verdict}
use Rattle.log_visits.specs.Asking.Asking.{ToWrite}
use Rattle.cli_base.specs.Input.{InputDecides, owner_answer}
use Rattle.cli_base.specs.Status.{is_before_print}
use Rattle.cli_base.specs.World.{Senses, World}
use Rattle.cli_base.specs.declared.status.Status.{Status}
use Rattle.cli_base.specs.declared.status.Status.TheVariants as statuses
use Rattle.cli_sessions.specs.Opening.{Judges}
use Rattle.cli_sessions.specs.Published.{PublishesFor}
use Rattle.cli_sessions.specs.Sessions.{RanDry, seen_between}
use Rattle.cli_upgrading.specs.Upgrading.{HandsInAlone, PrintsReply, TakesAlone, UpgradesOpened, UpgradesTyped, UpgradesUnopened}
use Rattle.cli_upgrading.specs.Upgrading.{is_after_opening, is_before_opening, is_upgrade_answer}

-- how a call of `upgrade` ends
pub record UpgradeEnds {S R D W : Type 0} (see : Senses S R D W) (status : Status) (before after : World S R D W) : Type 0 where
  -- when each answer comes
  pub answers : IsTrue (is_upgrade_answer status)
  pub decided : WhereTold (see.inputs.left before.input) (λ typed. InputDecides status (owner_answer typed))
  pub judged : WhereTold (see.inputs.left before.input) (λ typed. WhereTold (see.disks.shown before.disk) (λ image.
      (key : List ℕ) → HandsInAlone typed key → Judges status (verdict (ToWrite key) image)))
  pub short : (left need : ℕ) → status ≡ statuses.RandomShort left need
      → RanDry left need (see.randoms.left before.random) (see.randoms.left after.random)
  -- what it takes of the input, and prints: which reply, says `opening`
  pub takes : WhereBothTold (see.inputs.left before.input) (see.inputs.left after.input) (TakesAlone status)
  pub printed : (reply : Reply) × WhereBothTold (see.outs.written before.out) (see.outs.written after.out) (PrintsReply status reply)
  pub out_kept : IsTrue (is_before_print status) → after.out ≡ before.out
  -- what it leaves
  pub ran : WhereTold (see.inputs.left before.input) (λ typed. UpgradesTyped status typed (seen_between see before after)
      (see.disks.may_leave before.disk) (see.disks.since after.disk (see.disks.moment before.disk)) (see.disks.may_leave after.disk))
  pub published : WhereTold (see.inputs.left before.input) (λ typed. PublishesFor HandsInAlone typed (see.disks.shown before.disk)
      (see.disks.may_leave before.disk) (FromThenOn see.disks.moment see.disks.since before.disk after.disk))
  pub later : see.disks.moment before.disk ≤ see.disks.moment after.disk
  pub time : GoesOn (see.disks.moment before.disk) (see.disks.since before.disk) (see.disks.since after.disk)
  pub stays : IsTrue (is_after_opening status) → IsDurable (see.disks.may_leave after.disk) (see.disks.shown after.disk)
  pub opening : UpgradesUnopened see status before after ⊎ UpgradesOpened see status before after
  pub undrawn : status ≡ statuses.AlreadyNew → after ≡ record before { input = after.input; disk = after.disk }
  pub unopened : IsTrue (is_before_opening status) → after ≡ record before { input = after.input }
