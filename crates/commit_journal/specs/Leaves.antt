-- The leaves of a log, over which a head is told. This project's own, docs/FORMAT.md, "Heads".
use Rattle.std.specs.Prelude.{◌≡◌, ℕ, ◌+◌, ◌-◌, List, ◌∷◌, ◌++◌, map, take, drop, codes, Option, None, Some}
use Rattle.cry_base.specs.Layout.{batch_len, first_gate_offset, head_len, payload_offset}
use Rattle.commit_journal.specs.declared.judge.Turn.{Turn}
use Rattle.commit_journal.specs.declared.placed.Placed.{Placed}
use Rattle.commit_journal.specs.Log.{head_of}
use Rattle.commit_journal.specs.Placed.{PlainPlaced, plain_placed}

-- the bytes before the first gate, with this check of an owner's key
unfoldable pub front_with : List ℕ → List ℕ
front_with check = codes "CRYPTREE" ++ 1 ∷ check

-- a file's bytes before its first gate
unfoldable pub front_of : List ℕ → List ℕ
front_of bytes = take first_gate_offset bytes

-- the batch that stands there, without the gate behind it. Its head tells how many bytes its payload has
unfoldable pub batch_at : List ℕ → ℕ → List ℕ
batch_at bytes at = take (batch_len + (head_of (take head_len (drop at bytes))).size - 1) (drop at bytes)

-- the leaf of a batch, in a file of these bytes
abbrev pub leaf_of : List ℕ → PlainPlaced → List ℕ
leaf_of bytes p = batch_at bytes (p.place - payload_offset)

-- the leaves of a log of these batches: the front, and then one a batch
unfoldable pub leaves_of : List ℕ → List PlainPlaced → List (List ℕ)
leaves_of bytes log = front_of bytes ∷ map (leaf_of bytes) log

-- this is the leaf of the batch that was given, where one was
abbrev pub IsLeaf : List ℕ → List ℕ → Option Placed → Type 0
IsLeaf leaf bytes None = Unit {0}
IsLeaf leaf bytes (Some p) = leaf ≡ leaf_of bytes (plain_placed p)

-- and of the batch that stands there, if one does
abbrev pub IsLeafAt : List ℕ → List ℕ → ℕ → Option Turn → Type 0
IsLeafAt leaf bytes at None = Unit {0}
IsLeafAt leaf bytes at (Some turn) = leaf ≡ batch_at bytes at
