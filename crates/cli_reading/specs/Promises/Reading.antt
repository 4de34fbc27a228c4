-- What each command promises that only reads a store, whatever the input holds and the disk shows. It reads the input to its end, tests the
-- head that its words name, if they name one, reads what its key is shown of the store, and then prints that in one piece. The first line
-- that is bad is told, also where the input failed behind it. At each moment of the call the disk shows what it showed, and a stop leaves
-- what it left; nothing is drawn.
use Rattle.std.specs.Prelude.{◌≡◌, ℕ, Bool, IsTrue, List, Option, Result, is_some}
use Rattle.commit_journal.specs.Moments.{IsSameThroughout}
use Rattle.cry_base.specs.declared.client.Bundle.{Bundle}
use Rattle.cry_io.specs.Told.{WhereTold}
use Rattle.head_tree.specs.declared.head.Head.{Head}
use Rattle.public_fold.specs.Journal.{Journal}
use Rattle.cli_base.specs.Status.{is_before_print}
use Rattle.cli_base.specs.World.{Senses, World}
use Rattle.cli_base.specs.declared.status.Status.{Status}
use Rattle.cli_base.specs.declared.status.Status.TheVariants.{Done}
use Rattle.cli_reading.specs.Changed.{PrintsWritten}
use Rattle.cli_reading.specs.Held.{BeginsTo, HeldTo, MayGive}
use Rattle.cli_reading.specs.Reading.{Reads}
use Rattle.cli_reading.specs.Statuses.{is_before_read, is_reading_answer}

-- In what they differ: whether "unseen" may be told; what is answered to a bundle over an image; what of that on a disk that shows a
-- journal; and what of a journal's is printed of any disk.
pub record Difference : Type 1 where
  pub tells_unseen : Bool
  pub Gives : Bundle → List ℕ → Result (List ℕ) Status → Type 0
  pub OfJournal : Status → List ℕ → List ℕ → Option (List ℕ) → Option (List ℕ) → Type 0
  pub AreOf : Journal → Bundle → List ℕ → Result (List ℕ) Status → Type 0

-- how a call of such a command ends, whose words name this head or none
pub record ReadingEnds (its : Difference) (head : Option Head) {S R D W : Type 0} (see : Senses S R D W) (status : Status)
    (before after : World S R D W) : Type 0 where
  -- when each answer comes
  pub answers : IsTrue (is_reading_answer its.tells_unseen (is_some head) status)
  pub reads : Reads (MayGive head its.Gives) see.disks status (see.inputs.left before.input)
      (see.inputs.left after.input) before.disk after.disk (see.outs.written before.out) (see.outs.written after.out)
  pub journal : WhereTold (see.inputs.left before.input) (λ typed. WhereTold (see.disks.shown before.disk) (λ image.
      HeldTo head image → its.OfJournal status typed image (see.outs.written before.out) (see.outs.written after.out)))
  pub written : WhereTold (see.inputs.left before.input) (λ typed. WhereTold (see.disks.shown before.disk) (λ image.
      PrintsWritten its.AreOf status typed image (see.outs.written before.out) (see.outs.written after.out)))
  pub begins : status ≡ Done → WhereTold (see.disks.shown before.disk) (BeginsTo head)
  -- what it leaves
  pub moments : IsSameThroughout see.disks before.disk after.disk
  pub rest_kept : after ≡ record before { input = after.input; disk = after.disk; out = after.out }
  pub disk_unread : IsTrue (is_before_read status) → after.disk ≡ before.disk
  pub out_kept : IsTrue (is_before_print status) → after.out ≡ before.out
