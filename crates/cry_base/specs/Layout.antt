-- This project's own, docs/FORMAT.md, "The file": how long the parts of a store file are.
use Rattle.std.specs.Prelude.{ℕ}

-- the bytes of the header, behind which the batches stand
abbrev pub header_len : ℕ
header_len = 42

-- the bytes that a batch has beside its payload
abbrev pub batch_len : ℕ
batch_len = 110

-- the bytes at the header's front that tell a store and its version
abbrev pub magic_len : ℕ
magic_len = 9

-- where the header's gate stands, behind the owner's check
abbrev pub first_gate_offset : ℕ
first_gate_offset = 41

-- the bytes of a batch's head
abbrev pub head_len : ℕ
head_len = 13

-- where a batch's slot stands, behind its head
abbrev pub slot_offset : ℕ
slot_offset = 13

-- where a batch's payload begins, behind the slot
abbrev pub payload_offset : ℕ
payload_offset = 45

-- where the owner's tag stands in a batch without a payload: behind the check
abbrev pub tag_offset : ℕ
tag_offset = 77

-- where the next gate stands in a batch without a payload: behind the owner's tag
abbrev pub gate_offset : ℕ
gate_offset = 109

-- the bytes of a batch behind its payload: the check, the owner's tag and the next gate
abbrev pub back_len : ℕ
back_len = 65
