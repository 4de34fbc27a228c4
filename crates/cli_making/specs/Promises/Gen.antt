-- What `gen` promises, for the number of a script and the count of its lines. It answers as `make` does. On an empty disk no store is
-- made; or at some moment of the call one stands as `make` leaves it, and from then on a session over its journal goes through the script,
-- as `run` goes through lines, whatever ends it. At "done" all of the script was asked, the disk is settled at the session's journal, and
-- the owner's line and this journal's figures were printed in one piece; where the output failed, a front of it. On a disk that doesn't
-- tell, some figures were. Where nothing fails, the random source doesn't end and memory is there, it is done. Whatever the disk was,
-- nothing is pending on it behind the call, but where a fault of the disk ended it, or where the call changed nothing. The input is never
-- touched.
use Rattle.std.specs.Prelude.{◌≡◌, ◌≢◌, ◌≤◌, ◌⊎◌, ◌↔◌, ℕ, IsTrue}
use Rattle.commit_journal.specs.Holding.{GoesOn}
use Rattle.cry_io.specs.Stops.{IsDurable}
use Rattle.cli_making.specs.Generating.{EndsDry, Generates, IsUnmade}
use Rattle.cli_base.specs.Status.{is_before_print, is_make_answer}
use Rattle.cli_base.specs.World.{Senses, World}
use Rattle.cli_base.specs.declared.status.Status.{Status}
use Rattle.cli_base.specs.declared.status.Status.TheVariants as statuses

-- how a call of `gen` ends
pub record GenEnds {S R D W : Type 0} (see : Senses S R D W) (status : Status) (before after : World S R D W) (seed count : ℕ)
    : Type 0 where
  -- when each answer comes
  pub answers : IsTrue (is_make_answer status)
  pub not_blank : (status ≡ statuses.NotBlank) ↔ (see.disks.size_of before.disk ≢ 0)
  pub short : (left need : ℕ) → status ≡ statuses.RandomShort left need
      → EndsDry left need (see.randoms.left before.random) (see.randoms.left after.random)
  pub complete : see.disks.size_of before.disk ≡ 0 → ((left need : ℕ) → status ≢ statuses.RandomShort left need)
      → see.randoms.faults after.random ≤ see.randoms.faults before.random → see.disks.faults after.disk ≤ see.disks.faults before.disk
      → see.outs.faults after.out ≤ see.outs.faults before.out → (status ≡ statuses.Done) ⊎ (status ≡ statuses.OutOfMemory)
  -- what it leaves
  pub generates : see.disks.size_of before.disk ≡ 0
      → IsUnmade see.randoms.left see.disks status before.random after.random before.disk after.disk
      ⊎ Generates see.disks status seed count (see.randoms.left before.random) (see.randoms.left after.random) before.disk after.disk
      (see.outs.written before.out) (see.outs.written after.out)
  pub later : see.disks.moment before.disk ≤ see.disks.moment after.disk
  pub time : GoesOn (see.disks.moment before.disk) (see.disks.since before.disk) (see.disks.since after.disk)
  pub calm : status ≢ statuses.DiskFault
      → (after.disk ≡ before.disk) ⊎ IsDurable (see.disks.may_leave after.disk) (see.disks.shown after.disk)
  pub rest_kept : after ≡ record before { random = after.random; disk = after.disk; out = after.out }
  pub blank_kept : status ≡ statuses.NotBlank → (after.random ≡ before.random) × (after.disk ≡ before.disk)
  pub out_kept : IsTrue (is_before_print status) → after.out ≡ before.out
