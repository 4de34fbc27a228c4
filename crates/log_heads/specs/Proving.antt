-- What one reading of a published log tells whoever has the head over its first batches. This project's own, docs/FORMAT.md, "Heads".
use Rattle.std.specs.Prelude.{◌≡◌, ◌<◌, ◌≤◌, ℕ, ◌+◌, List, length, Option, Some, None, Result, Ok, Err}
use Rattle.cry_base.specs.Listed.{Listed}
use Rattle.commit_journal.specs.Answering.{Fault, IsFault}
use Rattle.commit_journal.specs.declared.fault.OpenFault.{OpenFault}
use Rattle.head_tree.specs.Climbing.{IsGrown}
use Rattle.head_tree.specs.Proving.{tree_proof}
use Rattle.log_heads.specs.declared.proof_so_far.ProofSoFar.{ProofSoFar}
use Rattle.log_heads.specs.declared.published.PublishedProof.{PublishedProof}

-- the proof that a log with these hashes of its leaves begins with so many first batches, and none where it has fewer
abbrev pub IsProof : Option (Listed (List ℕ)) → ℕ → List (List ℕ) → Type 0
IsProof None first hashes = length hashes ≤ first
IsProof (Some proof) first hashes = (first < length hashes) × (proof.items ≡ tree_proof (first + 1) hashes)

-- what a log with these hashes of its leaves publishes, for whoever has the head over so many first batches
pub record IsPublished (published : PublishedProof) (first : ℕ) (hashes : List (List ℕ)) : Type 0 where
  pub count : length hashes ≡ published.batches + 1
  pub proof_of : IsProof published.proof first hashes

-- what is kept behind the leaves with these hashes
pub record IsProofSoFar (so_far : ProofSoFar) (hashes : List (List ℕ)) : Type 0 where
  pub grown : IsGrown so_far.growing (so_far.wanted + 1) hashes
  pub count : length hashes ≡ so_far.batches + 1

-- what is told of a log, or the fault, is that of the hashes that were wanted
abbrev pub ReadsProof : ℕ → Result PublishedProof OpenFault → Result (List (List ℕ)) Fault → Type 0
ReadsProof first (Ok published) wanted = (hashes : List (List ℕ)) × (wanted ≡ Ok hashes) × IsPublished published first hashes
ReadsProof first (Err fault) wanted = IsFault fault wanted
