-- The leaves of a published log. This project's own, docs/FORMAT.md, "Heads".
use Rattle.std.specs.Prelude.{ℕ, List, map, Result, Ok}
use Rattle.commit_journal.specs.Answering.{Fault, and_then}
use Rattle.commit_journal.specs.Leaves.{leaves_of}
use Rattle.commit_journal.specs.Logs.{holder_log}
use Rattle.head_tree.specs.Hashing.{leaf_hash}

-- the leaves of the batches that a file publishes, or the first test that fails
unfoldable pub leaves_in : List ℕ → Result (List (List ℕ)) Fault
leaves_in bytes = and_then (holder_log bytes) (λ log. Ok (leaves_of bytes log))

-- and their hashes
unfoldable pub hashes_in : List ℕ → Result (List (List ℕ)) Fault
hashes_in bytes = and_then (leaves_in bytes) (λ leaves. Ok (map leaf_hash leaves))
