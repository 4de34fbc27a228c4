-- What stands behind the open gates of an image, whoever reads it. This project's own, docs/FORMAT.md, "The file" and
-- "Committing".
use Rattle.std.specs.Prelude.{ℕ, zero, suc, ◌+◌, ◌==◌, if◌then◌else◌, List, [], ◌∷◌, take, drop, map}
use Rattle.cry_base.specs.Layout.{first_gate_offset, gate_offset, head_len}
use Rattle.chacha_seal.specs.Sealing.{veil_of, masked}
use Rattle.commit_journal.specs.declared.batch_type.BatchType.{BatchType}
use Rattle.commit_journal.specs.declared.batch_type.BatchType.TheVariants.{Command, NewEpoch}
use Rattle.commit_journal.specs.declared.head.Head.{Head}
use Rattle.commit_journal.specs.Image.{Batch}
use Rattle.commit_journal.specs.Log.{head_of, slot_in, payload_in}

-- the head of a batch, and how many bytes the batch has before the gate behind it
unfoldable pub head_in : List ℕ → Head
head_in batch = head_of (take head_len batch)

unfoldable pub size_in : List ℕ → ℕ
size_in batch = gate_offset + (head_in batch).size

-- each batch behind an open gate, up to the first closed gate, by the bytes from a gate on, of which the first so many
-- belong to the batch before. Nothing is tested but the gates
unfoldable pub gated_at : ℕ → List ℕ → List (List ℕ)
gated_at skip [] = []
gated_at (suc skip) (byte ∷ rest) = gated_at skip rest
gated_at zero (gate ∷ rest) = if gate == 1 then take (size_in rest) rest ∷ gated_at (size_in rest) rest else []

-- the batches of an image, as bytes: the header has 41 bytes before its gate
unfoldable pub gated : List ℕ → List (List ℕ)
gated bytes = gated_at 0 (drop first_gate_offset bytes)

-- the payload of a batch as its slot unmasks it
unfoldable pub slot_payload : List ℕ → List ℕ
slot_payload batch = masked (slot_in batch) (payload_in (head_in batch).size batch)

-- the type of a type byte
abbrev pub type_of_byte : ℕ → BatchType
type_of_byte byte = if byte == 2 then NewEpoch else Command

-- a batch unmasked with the veil key that the owner computes
unfoldable pub recovered_batch : List ℕ → List ℕ → Batch
recovered_batch owner batch = record {
  type_of = type_of_byte (head_in batch).type_byte;
  number = (head_in batch).number;
  epoch = (head_in batch).epoch.0;
  payload = masked (veil_of owner (head_in batch).epoch.0 (head_in batch).number) (payload_in (head_in batch).size batch);
}

-- the batches before the first closed gate, as the owner reads them, published or not
unfoldable pub recovered : List ℕ → List ℕ → List Batch
recovered owner bytes = map (recovered_batch owner) (gated bytes)
