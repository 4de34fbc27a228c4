-- What one reading of a published log tells of its heads. This project's own, docs/FORMAT.md, "Heads".
use Rattle.std.specs.Prelude.{◌≡◌, ◌<◌, ◌≤◌, ℕ, ◌+◌, List, length, Option, Some, None, Result, Ok, Err}
use Rattle.commit_journal.specs.Answering.{Fault, IsFault}
use Rattle.commit_journal.specs.declared.fault.OpenFault.{OpenFault}
use Rattle.head_tree.specs.Growing.{Grown}
use Rattle.head_tree.specs.Hashing.{tree_hash}
use Rattle.head_tree.specs.Heads.{IsHead}
use Rattle.head_tree.specs.declared.head.Head.{Head}
use Rattle.log_heads.specs.declared.reading.Heads.{Heads}
use Rattle.log_heads.specs.declared.so_far.HeadsSoFar.{HeadsSoFar}

-- the head over so many first batches of a log with these hashes of its leaves, and none where it has fewer
abbrev pub IsFirst : Option Head → ℕ → List (List ℕ) → Type 0
IsFirst None first hashes = length hashes ≤ first
IsFirst (Some head) first hashes = (first < length hashes) × IsHead head first hashes

-- the heads of a log with these hashes of its leaves, over all batches and over so many first ones
pub record AreHeads (heads : Heads) (first : ℕ) (hashes : List (List ℕ)) : Type 0 where
  pub count : length hashes ≡ heads.all.batches + 1
  pub root : heads.all.root ≡ tree_hash hashes
  pub first_of : IsFirst heads.first first hashes

-- what is kept behind the leaves with these hashes
pub record AreSoFar (heads : HeadsSoFar) (hashes : List (List ℕ)) : Type 0 where
  pub grown : Grown heads.frontier hashes
  pub count : length hashes ≡ heads.batches + 1
  pub first_of : IsFirst heads.first heads.wanted hashes

-- the heads of a log, or the fault, are those of the hashes that were wanted
abbrev pub ReadsHeads : ℕ → Result Heads OpenFault → Result (List (List ℕ)) Fault → Type 0
ReadsHeads first (Ok heads) wanted = (hashes : List (List ℕ)) × (wanted ≡ Ok hashes) × AreHeads heads first hashes
ReadsHeads first (Err fault) wanted = IsFault fault wanted
