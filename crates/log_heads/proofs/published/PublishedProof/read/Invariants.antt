use Rattle.std.proofs.Common.{◌≡◌, ◌≤◌, ◌-◌, ℕ, List, Some, None, length, map}
use Rattle.commit_journal.specs.Leaves.{leaves_of}
use Rattle.commit_journal.specs.Readers.{read_log}
use Rattle.commit_journal.specs.Streaming.{log_in}
use Rattle.cry_io.specs.Reading.{IsOnlyRead}
use Rattle.head_tree.specs.Hashing.{leaf_hash}
use Rattle.log_heads.specs.Proving.{IsProofSoFar}
use Rattle.log_heads.proofs.published.PublishedProof.read.Given as goal

abbrev pub invariant-loop-so_far : goal.invariant-loop-so_far
invariant-loop-so_far g l = record {
  inside : l.log.past.at ≤ g.D.Disk.size_of l.disk;
  given : length l.log.given ≡ l.so_far.batches;
  wanted : l.so_far.wanted ≡ l.fn.first;
  read_only : IsOnlyRead g.D.Disk l.fn.disk l.disk;
  counts : g.D.Disk.faults l.fn.disk ≤ g.D.Disk.faults l.disk;
  so_far : (s : List ℕ) → g.D.Disk.shown l.fn.disk ≡ Some s → log_in l.log s ≡ read_log None s;
  proof : (hashes : List (List ℕ)) × IsProofSoFar l.so_far hashes
      × ((s : List ℕ) → g.D.Disk.shown l.fn.disk ≡ Some s → hashes ≡ map leaf_hash (leaves_of s l.log.given));
}

abbrev pub decreases-loop-so_far : goal.decreases-loop-so_far
decreases-loop-so_far g l = g.D.Disk.size_of l.disk - l.log.past.at
