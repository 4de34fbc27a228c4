-- What is told of a head that is handed in before a store is read. This project's own, docs/PROGRAM.md, "The program".
use Rattle.std.specs.Prelude.{◌≡◌, ◌⊎◌, ◌<◌, ◌≤◌, ℕ, ◌+◌, ◌-◌, List, ◌++◌, length, take, Result, Ok, Err}
use Rattle.commit_journal.specs.Answering.{Fault}
use Rattle.head_tree.specs.Hashing.{texts_of}
use Rattle.head_tree.specs.Heads.{Collision, IsHead, IsHeadOf, IsPrefix}
use Rattle.head_tree.specs.declared.head.Head.{Head}
use Rattle.log_heads.specs.Published.{leaves_in}
use Rattle.cli_base.specs.declared.status.Status.{Status}
use Rattle.cli_base.specs.declared.status.Status.TheVariants as statuses
use Rattle.cli_heads.specs.Statuses.{EndsAs, fault_status}

-- a log with these hashes of its leaves, of which there is one more than there are batches, begins with the batches that the head names
abbrev pub IsHeld : Head → Result (List (List ℕ)) Fault → Type 0
IsHeld head (Ok hashes) = (head.batches < length hashes) × IsHead head head.batches hashes
IsHeld head (Err fault) = ⊥

-- or how a command ends: a test of the log fails, or it has fewer batches, or its first so many are others
abbrev pub FailsHead : Head → Result (List (List ℕ)) Fault → Status → Type 0
FailsHead head (Ok hashes) status =
    (length hashes ≤ head.batches) × (status ≡ statuses.Behind (length hashes - 1) head.batches)
    ⊎ (head.batches < length hashes) × (IsHead head head.batches hashes → ⊥) × (status ≡ statuses.Forked head.batches)
FailsHead head (Err fault) status = status ≡ fault_status fault

-- this was told
abbrev pub TestsHead : Head → Result (Unit {0}) Status → Result (List (List ℕ)) Fault → Type 0
TestsHead head (Ok _) hashes = IsHeld head hashes
TestsHead head (Err status) hashes = EndsAs (FailsHead head hashes) status

-- whatever leaves have this head, the log that an image publishes begins with them, or two different texts among those hashed have one
-- SHA-256 value
abbrev pub BeginsSo : Head → List ℕ → Type 0
BeginsSo head image = (leaves : List (List ℕ)) → IsHeadOf head leaves → (log : List (List ℕ)) × (leaves_in image ≡ Ok log)
    × (IsPrefix leaves log ⊎ Collision (texts_of leaves ++ texts_of (take (head.batches + 1) log)))
