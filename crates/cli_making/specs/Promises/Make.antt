-- What `make` promises. It answers "not blank" exactly on a disk that has bytes. On an empty one it draws 192 bytes, and where the random
-- source has fewer, says how many it had. Where nothing fails and memory is there it is done: the disk shows the store that the drawn
-- bytes make, settled, and the line with its owner's key was printed. Where the output failed, the whole store stands all the same, and a
-- front of that line was printed. The disk is handed the writes of that store, each batch as it is staged, opened and published, and
-- nothing else: where the disk failed, the first of them. All of this speaks of the same drawn bytes. Before the draw the random source is
-- as it was; before the writing the disk; before the printing the output. The input is never touched.
use Rattle.std.specs.Prelude.{◌≡◌, ◌≢◌, ◌≤◌, ◌⊎◌, ◌↔◌, ℕ, length, IsTrue}
use Rattle.commit_journal.specs.Holding.{GoesOn}
use Rattle.cry_io.specs.Stops.{IsDurable}
use Rattle.cry_io.specs.Told.{WhereTold}
use Rattle.cli_making.specs.Making.{EndsShort, IsShort, Makes}
use Rattle.cli_base.specs.Outside.{PrintsAll, PrintsFront}
use Rattle.cli_base.specs.Status.{is_before_draw, is_before_print, is_before_write, is_make_answer}
use Rattle.cli_base.specs.World.{Senses, World}
use Rattle.cli_base.specs.declared.status.Status.{Status}
use Rattle.cli_base.specs.declared.status.Status.TheVariants as statuses
use Rattle.key_links.specs.Fresh.{fresh_draw_len, fresh_store_len}
use Rattle.store_owner.specs.Making.{HandsFresh}

-- how a call of `make` ends
pub record MakeEnds {S R D W : Type 0} (see : Senses S R D W) (status : Status) (before after : World S R D W) : Type 0 where
  -- when each answer comes
  pub answers : IsTrue (is_make_answer status)
  pub not_blank : (status ≡ statuses.NotBlank) ↔ (see.disks.size_of before.disk ≢ 0)
  pub short : (left need : ℕ) → status ≡ statuses.RandomShort left need
      → IsShort left need (see.randoms.left before.random) (see.randoms.left after.random)
  pub short_only : see.disks.size_of before.disk ≡ 0 → WhereTold (see.randoms.left before.random) (EndsShort status)
  pub complete : see.disks.size_of before.disk ≡ 0
      → WhereTold (see.randoms.left before.random) (λ bytes. fresh_draw_len ≤ length bytes
      → see.randoms.faults after.random ≤ see.randoms.faults before.random → see.disks.faults after.disk ≤ see.disks.faults before.disk
      → see.outs.faults after.out ≤ see.outs.faults before.out → (status ≡ statuses.Done) ⊎ (status ≡ statuses.OutOfMemory))
  -- what it leaves
  pub made : status ≡ statuses.Done → Makes PrintsAll (see.randoms.left before.random) (see.randoms.left after.random)
      (see.disks.shown before.disk) (see.disks.shown after.disk) (see.disks.may_leave after.disk)
      (see.disks.since after.disk (see.disks.moment before.disk)) (see.outs.written before.out) (see.outs.written after.out)
  pub cut_short : status ≡ statuses.WriteFault → Makes PrintsFront (see.randoms.left before.random) (see.randoms.left after.random)
      (see.disks.shown before.disk) (see.disks.shown after.disk) (see.disks.may_leave after.disk)
      (see.disks.since after.disk (see.disks.moment before.disk)) (see.outs.written before.out) (see.outs.written after.out)
  pub stays : (status ≡ statuses.Done) ⊎ (status ≡ statuses.WriteFault)
      → IsDurable (see.disks.may_leave after.disk) (see.disks.shown after.disk) × (see.disks.size_of after.disk ≡ fresh_store_len)
  -- what the disk is handed where it failed
  pub hands_some : status ≡ statuses.DiskFault → HandsFresh ⊥ (see.randoms.left before.random)
      (see.randoms.left after.random) (see.disks.shown before.disk) (see.disks.shown after.disk)
      (see.disks.since after.disk (see.disks.moment before.disk))
  pub later : see.disks.moment before.disk ≤ see.disks.moment after.disk
  pub time : GoesOn (see.disks.moment before.disk) (see.disks.since before.disk) (see.disks.since after.disk)
  pub rest_kept : after ≡ record before { random = after.random; disk = after.disk; out = after.out }
  pub random_kept : IsTrue (is_before_draw status) → after.random ≡ before.random
  pub disk_kept : IsTrue (is_before_write status) → after.disk ≡ before.disk
  pub out_kept : IsTrue (is_before_print status) → after.out ≡ before.out
