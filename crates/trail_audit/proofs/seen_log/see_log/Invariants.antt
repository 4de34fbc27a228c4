use Rattle.std.proofs.Common.{◌≡◌, ◌≤◌, ◌-◌, ℕ, List, [], Some, map, take}
use Rattle.cry_io.specs.Reading.{IsOnlyRead}
use Rattle.commit_journal.specs.Streaming.{ShowsGiven}
use Rattle.log_visits.specs.Placing.{log_contents}
use Rattle.trail_audit.specs.Derived.{AreSeen, plain_seen}
use Rattle.trail_audit.proofs.seen_log.see_log.Given as goal

abbrev pub invariant-loop-done : goal.invariant-loop-done
invariant-loop-done g l = record {
  within : l.done ≤ l.last;
  shown : (s : List ℕ) → g.D.Disk.shown l.fn.disk ≡ Some s → ShowsGiven l.log s → AreSeen l.known.keys.items (log_contents (take l.done l.log.given)) [] (map plain_seen l.seen.items);
  read_only : IsOnlyRead g.D.Disk l.fn.disk l.disk;
  counts : g.D.Disk.faults l.fn.disk ≤ g.D.Disk.faults l.disk;
}

abbrev pub decreases-loop-done : goal.decreases-loop-done
decreases-loop-done g l = l.last - l.done
