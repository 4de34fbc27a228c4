use Rattle.std.specs.Prelude.{All, slice_index}
use Rattle.std.proofs.Common.{◌≡◌, ◌≤◌, ◌-◌, ℕ, List, Some, map}
use Rattle.cry_base.specs.Layout.{header_len}
use Rattle.commit_journal.specs.Filling.{IsWithin, unfilled_in}
use Rattle.commit_journal.specs.Opening.{HasRoom}
use Rattle.commit_journal.specs.Placed.{plain_placed}
use Rattle.commit_journal.specs.Places.{IsStanding}
use Rattle.cry_io.specs.Reading.{IsOnlyRead}
use Rattle.commit_journal.proofs.Counted.{CountsOn, EndsAt}
use Rattle.commit_journal.proofs.OwnedLemmas.{IsSoFarOwned}
use Rattle.commit_journal.proofs.SlotsGated.{AreGatedTo}
use Rattle.commit_journal.proofs.opening.walk.Given as goal

abbrev pub invariant-loop-past : goal.invariant-loop-past
invariant-loop-past g l = record {
  room : HasRoom l.past;
  inside : l.past.at ≤ g.D.Disk.size_of l.disk;
  stands : All IsStanding l.log.items;
  within : All (IsWithin (g.D.Disk.size_of l.fn.disk)) l.slots.items;
  unfilled : (s : List ℕ) → g.D.Disk.shown l.fn.disk ≡ Some s → l.slots.items ≡ unfilled_in l.owner.bytes (map plain_placed l.log.items) s;
  gated : (s : List ℕ) → g.D.Disk.shown l.fn.disk ≡ Some s → AreGatedTo header_len (map plain_placed l.log.items) l.past.at s × (slice_index s (l.past.at - 1) ≡ l.past.gate);
  read_only : IsOnlyRead g.D.Disk l.fn.disk l.disk;
  counted : CountsOn (map plain_placed l.log.items) l.past;
  ends : EndsAt (map plain_placed l.log.items) l.past;
  counts : g.D.Disk.faults l.fn.disk ≤ g.D.Disk.faults l.disk;
  so_far : (s : List ℕ) → g.D.Disk.shown l.fn.disk ≡ Some s → IsSoFarOwned l.limit l.owner.bytes s (map plain_placed l.log.items) l.past;
}

abbrev pub decreases-loop-past : goal.decreases-loop-past
decreases-loop-past g l = g.D.Disk.size_of l.disk - l.past.at
