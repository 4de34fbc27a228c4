use Rattle.std.proofs.Common.{◌≡◌, ◌≤◌, ℕ, List, Some, drop, map}
use Rattle.std.specs.Prelude.{is_some}
use Rattle.cry_base.specs.Layout.{header_len}
use Rattle.cry_io.specs.Stops.{IsDurable}
use Rattle.batch_log.specs.Handing.{IsStage, IsTornStage}
use Rattle.batch_log.specs.Moments.{GoesOn, Throughout}
use Rattle.commit_journal.specs.Filling.{AreUnfilled, LeavesUnfilled, all_filled}
use Rattle.commit_journal.specs.Handing.{slot_write}
use Rattle.commit_journal.specs.Moments.{FillsThroughout}
use Rattle.commit_journal.proofs.filling.fill_slots.Given as goal

abbrev pub invariant-loop-slot : goal.invariant-loop-slot
invariant-loop-slot g l = record {
  told : is_some (g.D.Disk.shown l.disk) ≡ is_some (g.D.Disk.shown l.fn.disk);
  size : g.D.Disk.size_of l.disk ≡ g.D.Disk.size_of l.fn.disk;
  durable : IsDurable (g.D.Disk.may_leave l.disk) (g.D.Disk.shown l.disk);
  later : g.D.Disk.moment l.fn.disk ≤ g.D.Disk.moment l.disk;
  time : GoesOn (g.D.Disk.moment l.fn.disk) (g.D.Disk.since l.fn.disk) (g.D.Disk.since l.disk);
  stops : FillsThroughout l.slots (g.D.Disk.shown l.fn.disk) (g.D.Disk.since l.disk (g.D.Disk.moment l.fn.disk));
  counts : g.D.Disk.faults l.fn.disk ≤ g.D.Disk.faults l.disk;
  unfilled : (y : List ℕ) → g.D.Disk.shown l.disk ≡ Some y → AreUnfilled header_len (drop l.slot-index l.slots) y;
  so_far : (x y : List ℕ) → g.D.Disk.shown l.fn.disk ≡ Some x → g.D.Disk.shown l.disk ≡ Some y →
      all_filled l.slots x ≡ all_filled (drop l.slot-index l.slots) y;
  left : (x y z : List ℕ) → g.D.Disk.shown l.fn.disk ≡ Some x → g.D.Disk.shown l.disk ≡ Some y
      → LeavesUnfilled (drop l.slot-index l.slots) y z → LeavesUnfilled l.slots x z;
  hands : (x : List ℕ) → g.D.Disk.shown l.fn.disk ≡ Some x
      → Throughout (λ s left. IsStage (map slot_write l.slots) x s) (g.D.Disk.since l.disk (g.D.Disk.moment l.fn.disk));
  stage : (x y z : List ℕ) → g.D.Disk.shown l.fn.disk ≡ Some x → g.D.Disk.shown l.disk ≡ Some y
      → IsStage (map slot_write (drop l.slot-index l.slots)) y z → IsStage (map slot_write l.slots) x z;
  torn : (x y z : List ℕ) → g.D.Disk.shown l.fn.disk ≡ Some x → g.D.Disk.shown l.disk ≡ Some y
      → IsTornStage (map slot_write (drop l.slot-index l.slots)) y z → IsTornStage (map slot_write l.slots) x z;
}
