-- A run or an upgrade with a head in a list of calls. This project's own, docs/MODEL.md.
--
-- It is a call that only reads the store, for the test of the head; a run or an upgrade; and a call that only reads it again, for the last
-- head. So a list of calls with such a one in it is a list of calls, and what is said of all lists of calls is said of it.
use Rattle.std.specs.Prelude.{◌⊎◌, ℕ, List}
use Rattle.commit_journal.specs.Holding.{GoesOn}
use Rattle.cry_io.specs.declared.disk.Disk as disk
use Rattle.stop_laws.specs.Runs.{LeavesStore, RunOver, UpgradeOver}

-- a call with a head that is held, over a disk, which does this between the two readings
pub record HeldOver {D : Type 0} (disks : disk.Ghosts D) (Does : D → D → Type 0) (before after : D) : Type 0 where
  pub tested : D
  pub ran : D
  pub test : LeavesStore disks before tested
  pub run : Does tested ran
  pub time : GoesOn (disks.moment tested) (disks.since tested) (disks.since ran)
  pub last : LeavesStore disks ran after

-- a run so, whose first line hands in this owner's key, and an upgrade, whose whole input is the line of it
abbrev pub HeldRunOver : {D : Type 0} → disk.Ghosts D → List ℕ → D → D → Type 0
HeldRunOver disks key before after = HeldOver disks (RunOver disks key) before after

abbrev pub HeldUpgradeOver : {D : Type 0} → disk.Ghosts D → List ℕ → D → D → Type 0
HeldUpgradeOver disks key before after = HeldOver disks (UpgradeOver disks key) before after

-- a run with a head that is held, or one that ended before the store was opened
abbrev pub HeldCallOver : {D : Type 0} → disk.Ghosts D → List ℕ → D → D → Type 0
HeldCallOver disks key before after = LeavesStore disks before after ⊎ HeldRunOver disks key before after

-- and so an upgrade
abbrev pub HeldUpgradeCallOver : {D : Type 0} → disk.Ghosts D → List ℕ → D → D → Type 0
HeldUpgradeCallOver disks key before after = LeavesStore disks before after ⊎ HeldUpgradeOver disks key before after
