-- The records that stand in the bytes of a store, whoever wrote them. This project's own, docs/FORMAT.md, "Records" and
-- "The file".
use Rattle.std.specs.Prelude.{◌≡◌, ℕ, List, [], ◌∷◌, ◌++◌, map, Result, Ok, Err}
use Rattle.std.specs.List.{flat_map}
use Rattle.chacha_seal.specs.Sealing.{seal_tag}
use Rattle.record_format.specs.declared.link.LinkRecord.{LinkRecord}
use Rattle.record_format.specs.Plain.{PlainContent, PlainPayload}
use Rattle.record_format.specs.Reading.{payload_or_place}
use Rattle.record_format.specs.Spelling.{link_head, content_head, spell_link, spell_content}
use Rattle.commit_journal.specs.Gates.{gated, slot_payload}

-- a link or a content
pub data PlainRecord : Type 0 where
  ALink : LinkRecord → PlainRecord
  AContent : PlainContent → PlainRecord

-- its bytes
unfoldable pub spell_record : PlainRecord → List ℕ
spell_record (ALink l) = spell_link l
spell_record (AContent c) = spell_content c

-- the serial of the key that it says it was sealed under
unfoldable pub sealing_serial : PlainRecord → ℕ
sealing_serial (ALink l) = l.from_serial.0
sealing_serial (AContent c) = c.key_serial.0

-- its tag is right under these key bytes
abbrev pub IsTagged : List ℕ → PlainRecord → Type 0
IsTagged key (ALink l) = l.tag ≡ seal_tag key (link_head l) l.cipher
IsTagged key (AContent c) = c.tag ≡ seal_tag key (content_head c) c.cipher

-- the records of a payload, links first
unfoldable pub payload_records : PlainPayload → List PlainRecord
payload_records p = map ALink p.links ++ map AContent p.contents

-- the payload that was read, if one was
unfoldable pub read_payloads : Result PlainPayload ℕ → List PlainPayload
read_payloads (Ok p) = p ∷ []
read_payloads (Err at) = []

-- the payloads of the batches behind open gates, each unmasked with the slot of its batch. An epoch has none
unfoldable pub payloads_in : List ℕ → List PlainPayload
payloads_in bytes = flat_map (λ batch. read_payloads (payload_or_place (slot_payload batch))) (gated bytes)

-- the records that stand in the bytes
unfoldable pub records_in : List ℕ → List PlainRecord
records_in bytes = flat_map payload_records (payloads_in bytes)
