-- What a call that writes nothing leaves of a disk.
use Rattle.std.specs.Prelude.{◌≡◌, ◌↔◌, ℕ, List}
use Rattle.cry_io.specs.Stops.{Elapses}
use Rattle.cry_io.specs.declared.disk.Disk as disk

-- At each moment of the call, and behind it, the disk shows what it showed and a stop leaves what it left. It has the size that it had.
pub record IsOnlyRead {D : Type 0} (disks : disk.Ghosts D) (old new : D) : Type 0 where
  pub same_bytes : disks.shown new ≡ disks.shown old
  pub same_size : disks.size_of new ≡ disks.size_of old
  pub same_stops : (c : List ℕ) → disks.may_leave new c ↔ disks.may_leave old c
  pub time : Elapses (disks.moment old) (disks.moment new) (disks.since old) (disks.since new) (disks.shown new) (disks.may_leave new)
