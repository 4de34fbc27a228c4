-- What is known of a disk that is read once more.
use Rattle.std.specs.Prelude.{◌≡◌, ◌≤◌, ℕ, List, Some}
use Rattle.std.proofs.Common.{◌∙◌}
use Rattle.std.proofs.Math.Nat.{le_refl, le_trans}
use Rattle.cry_io.specs.Reading.{IsOnlyRead}
use Rattle.cry_io.specs.declared.disk.Disk as disk
use Rattle.cry_io.proofs.OnlyRead.{only_read_still, only_read_twice}
use Rattle.commit_journal.specs.Streaming.{LogState, ShowsGiven}

abbrev pub IsReread : {D : Type 0} → disk.Ghosts D → D → D → Type 0
IsReread disks a b = IsOnlyRead disks a b × (disks.faults a ≤ disks.faults b)

pub reread_still : {D : Type 0} {disks : disk.Ghosts D} (a : D) → IsReread disks a a
reread_still {D} {disks} a = (only_read_still disks a, le_refl (disks.faults a))

pub reread_on : {D : Type 0} {disks : disk.Ghosts D} (a b e : D) → IsReread disks a b → IsReread disks b e → IsReread disks a e
reread_on {D} {disks} a b e first second = (only_read_twice disks a b e first.0 second.0, le_trans first.1 second.1)

pub still_shown : {D : Type 0} {disks : disk.Ghosts D} (l : LogState) (a b : D) → IsReread disks a b
    → (s : List ℕ) × (disks.shown a ≡ Some s) × ShowsGiven l s → (s : List ℕ) × (disks.shown b ≡ Some s) × ShowsGiven l s
still_shown {D} {disks} l a b kept shows = (shows.0, kept.0.same_bytes ∙ shows.1, shows.2)
