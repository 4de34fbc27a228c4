-- The store file, from its header to its last gate. This project's own, docs/FORMAT.md, "The file".
use Rattle.std.specs.Prelude.{ℕ, List, [], ◌∷◌, ◌++◌, length, codes, replicate}
use Rattle.hmac_seal.specs.Hmac.{hmac}
use Rattle.chacha_seal.specs.Sealing.{veil_of, check_of, owner_tag_key, masked}
use Rattle.record_format.specs.Spelling.{be32}
use Rattle.commit_journal.specs.declared.batch_type.BatchType.{BatchType}
use Rattle.commit_journal.specs.declared.batch_type.BatchType.TheVariants.{Command, NewEpoch}

-- a batch before it is masked. An epoch batch has no payload
pub record Batch : Type 0 where
  pub type_of : BatchType
  pub number : ℕ
  pub epoch : ℕ
  pub payload : List ℕ

-- the type byte
abbrev pub type_byte : BatchType → ℕ
type_byte Command = 1
type_byte NewEpoch = 2

-- type, number, epoch and the payload's length: 13 bytes
unfoldable pub head_bytes : BatchType → ℕ → ℕ → ℕ → List ℕ
head_bytes type_of number epoch size = type_byte type_of ∷ (be32 number ++ (be32 epoch ++ be32 size))

abbrev pub batch_head : Batch → List ℕ
batch_head b = head_bytes b.type_of b.number b.epoch (length b.payload)

-- the veil key of the batch
abbrev pub batch_veil : List ℕ → Batch → List ℕ
batch_veil owner b = veil_of owner b.epoch b.number

-- the payload under its veil
abbrev pub masked_payload : List ℕ → Batch → List ℕ
masked_payload owner b = masked (batch_veil owner b) b.payload

-- the check, by which who has the veil key knows it
abbrev pub batch_check : List ℕ → Batch → List ℕ
batch_check owner b = hmac (batch_veil owner b) (masked_payload owner b)

-- the owner's tag, which hangs on the tag of the batch before
unfoldable pub owner_tag : List ℕ → List ℕ → Batch → List ℕ
owner_tag owner previous b =
    hmac (owner_tag_key owner) (previous ++ (batch_head b ++ (masked_payload owner b ++ batch_check owner b)))

-- the slot of a batch that isn't published
unfoldable pub empty_slot : List ℕ
empty_slot = replicate 32 0

-- a batch with these bytes in its slot, without the gate behind it: 109 bytes and its payload
unfoldable pub spell_batch : List ℕ → List ℕ → List ℕ → Batch → List ℕ
spell_batch owner previous slot b =
    batch_head b ++ (slot ++ (masked_payload owner b ++ (batch_check owner b ++ owner_tag owner previous b)))

-- the header without its gate: 41 bytes
unfoldable pub spell_header : List ℕ → List ℕ
spell_header owner = codes "CRYPTREE" ++ 1 ∷ check_of owner

-- batches that follow a tag, each published behind its open gate
unfoldable pub spell_batches : List ℕ → List ℕ → List Batch → List ℕ
spell_batches owner previous [] = []
spell_batches owner previous (b ∷ bs) =
    1 ∷ (spell_batch owner previous (batch_veil owner b) b ++ spell_batches owner (owner_tag owner previous b) bs)

-- the file of these batches, without the gate behind the last: a store at rest has a closed one there
unfoldable pub image : List ℕ → List Batch → List ℕ
image owner bs = spell_header owner ++ spell_batches owner (check_of owner) bs
