use Rattle.std.specs.Prelude.{option_copied}
use Rattle.std.proofs.Common.{◌≡◌, ◌≤◌, ◌-◌, ℕ, List, length, Some}
use Rattle.commit_journal.specs.Readers as readers
use Rattle.cry_io.specs.Reading.{IsOnlyRead}
use Rattle.commit_journal.specs.Streaming.{IsReading, ShowsGiven, log_in}
use Rattle.holder_client.proofs.log_reading.read_batches.Given as goal

abbrev pub invariant-loop-log : goal.invariant-loop-log
invariant-loop-log g l = record {
  inside : l.log.past.at ≤ g.D.Disk.size_of l.disk;
  read : g.K.Keeps.has_read l.kept l.log.given;
  past : l.start ≡ l.log.past;
  number : l.start.number ≡ length l.log.starts;
  reading : IsReading l.log.given l.log.starts l.log.past;
  starts : g.K.Keeps.has_starts l.kept l.log.starts;
  read_only : IsOnlyRead g.D.Disk l.fn.disk l.disk;
  counts : g.D.Disk.faults l.fn.disk ≤ g.D.Disk.faults l.disk;
  so_far : (s : List ℕ) → g.D.Disk.shown l.fn.disk ≡ Some s → log_in l.log s ≡ readers.read_log (readers.key_bytes (option_copied l.owner)) s;
  shows : (s : List ℕ) → g.D.Disk.shown l.fn.disk ≡ Some s → ShowsGiven l.log s;
}

abbrev pub decreases-loop-log : goal.decreases-loop-log
decreases-loop-log g l = g.D.Disk.size_of l.disk - l.log.past.at
