-- What is answered to whoever asks for a log's head, or for a proof between two. This project's own, docs/PROGRAM.md, "Heads".
use Rattle.std.specs.Prelude.{◌≡◌, ◌⊎◌, ℕ, ◌+◌, ◌-◌, nat_lt, if◌then◌else◌, List, length, Result, Ok, Err}
use Rattle.std.specs.List.{flat_map}
use Rattle.cry_base.specs.Listed.{Listed}
use Rattle.commit_journal.specs.Answering.{Fault}
use Rattle.head_tree.specs.Hashing.{tree_hash}
use Rattle.head_tree.specs.Proving.{tree_proof}
use Rattle.log_heads.specs.Published.{hashes_in}
use Rattle.script_text.specs.Printing.{head_line, node_line}
use Rattle.cli_base.specs.declared.status.Status.{Status}
use Rattle.cli_base.specs.declared.status.Status.TheVariants as statuses
use Rattle.cli_heads.specs.Asked.{Asked}
use Rattle.cli_heads.specs.Asked.Asked.{TheHead, TheProof}
use Rattle.cli_heads.specs.Statuses.{fault_status}

-- the head over all leaves, as it is printed
unfoldable pub head_text : List (List ℕ) → List ℕ
head_text hashes = head_line (length hashes - 1) (tree_hash hashes)

-- the proof for the first batches of them, a line for each hash
unfoldable pub proof_text : ℕ → List (List ℕ) → List ℕ
proof_text batches hashes = flat_map node_line (tree_proof (batches + 1) hashes)

-- what is answered of a log with these hashes of its leaves, of which there is one more than there are batches
abbrev pub told_of : Asked → List (List ℕ) → Result (List ℕ) Status
told_of TheHead hashes = Ok (head_text hashes)
told_of (TheProof batches) hashes =
    if nat_lt batches (length hashes) then Ok (proof_text batches hashes) else Err (statuses.Behind (length hashes - 1) batches)

-- or where a test of the log fails
abbrev pub told_if : Asked → Result (List (List ℕ)) Fault → Result (List ℕ) Status
told_if asked (Ok hashes) = told_of asked hashes
told_if asked (Err fault) = Err (fault_status fault)

-- what is answered over an image
abbrev pub answer_of : Asked → List ℕ → Result (List ℕ) Status
answer_of asked image = told_if asked (hashes_in image)

-- this is that, unless memory was wanting
abbrev pub IsToldOf : Result (Listed ℕ) Status → Result (List ℕ) Status → Type 0
IsToldOf (Ok text) wanted = wanted ≡ Ok text.items
IsToldOf (Err status) wanted = (status ≡ statuses.OutOfMemory) ⊎ (wanted ≡ Err status)

-- how it ends where no proof is told: memory is wanting, or fewer batches are published
abbrev pub IsUntold : ℕ → ℕ → Status → Type 0
IsUntold have batches status = (status ≡ statuses.OutOfMemory) ⊎ (status ≡ statuses.Behind have batches)
