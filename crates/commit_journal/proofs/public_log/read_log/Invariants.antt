use Rattle.std.specs.Prelude.{All, option_copied}
use Rattle.std.proofs.Common.{◌≡◌, ◌≤◌, ◌-◌, ℕ, List, Some, map}
use Rattle.commit_journal.specs.Logs.{AreInEpochs}
use Rattle.commit_journal.specs.Placed.{plain_placed}
use Rattle.commit_journal.specs.Places.{IsStanding}
use Rattle.commit_journal.specs.Readers as readers
use Rattle.cry_io.specs.Reading.{IsOnlyRead}
use Rattle.commit_journal.specs.Streaming.{log_in}
use Rattle.commit_journal.proofs.public_log.read_log.Given as goal

abbrev pub invariant-loop-batches : goal.invariant-loop-batches
invariant-loop-batches g l = record {
  inside : l.log.past.at ≤ g.D.Disk.size_of l.disk;
  stands : All IsStanding l.batches.items;
  given : map plain_placed l.batches.items ≡ l.log.given;
  epochs : AreInEpochs 0 l.log.given;
  read_only : IsOnlyRead g.D.Disk l.fn.disk l.disk;
  counts : g.D.Disk.faults l.fn.disk ≤ g.D.Disk.faults l.disk;
  so_far : (s : List ℕ) → g.D.Disk.shown l.fn.disk ≡ Some s → log_in l.log s ≡ readers.read_log (readers.key_bytes (option_copied l.owner)) s;
}

abbrev pub decreases-loop-batches : goal.decreases-loop-batches
decreases-loop-batches g l = g.D.Disk.size_of l.disk - l.log.past.at
