-- A fresh store as a function of the 192 bytes drawn for it. This project's own, docs/FORMAT.md, "The bytes of a
-- fresh store".
use Rattle.std.specs.Prelude.{ℕ, ◌+◌, ◌*◌, List, [], ◌∷◌, ◌++◌, take, drop}
use Rattle.chacha_seal.specs.Keys.{KeyParts}
use Rattle.chacha_seal.specs.Serials.{serial_of}
use Rattle.record_format.specs.declared.link.LinkRecord.{LinkRecord}
use Rattle.record_format.specs.declared.note.Note.TheVariants.{StrictRoot}
use Rattle.record_format.specs.Plain.{PlainContent, PlainPayload}
use Rattle.record_format.specs.Spelling.{spell_payload}
use Rattle.commit_journal.specs.declared.batch_type.BatchType.TheVariants.{Command, NewEpoch}
use Rattle.commit_journal.specs.Image.{Batch, image}
use Rattle.key_links.specs.Sealed.{sealed_link, sealed_content}

-- the version of a store that is made
abbrev pub made_version : ℕ
made_version = 2

-- the bytes that are drawn: six keys of 32
abbrev pub fresh_draw_len : ℕ
fresh_draw_len = 192

-- the bytes of its root's payload: five links and one content
abbrev pub root_payload_len : ℕ
root_payload_len = 557

-- the bytes of the whole store: header, first epoch's batch, root's batch
abbrev pub fresh_store_len : ℕ
fresh_store_len = 819

-- key i of those drawn, 32 bytes: the owner's, and then the root's
abbrev pub piece : List ℕ → ℕ → List ℕ
piece drawn i = take 32 (drop (32 * i) drawn)

abbrev pub owner_key : List ℕ → KeyParts
owner_key drawn = record { id = 0; serial = 0; bytes = piece drawn 0 }

-- key i of the root: 0 Clear, 1 Sub, 2 Back, 3 Files, 4 Data
abbrev pub root_key : List ℕ → ℕ → KeyParts
root_key drawn i = record { id = 1; serial = serial_of 1 i; bytes = piece drawn (i + 1) }

-- Owner to Clear, Clear to Sub, Sub to Back, Sub to Files, Back to Data
unfoldable pub root_links : List ℕ → List LinkRecord
root_links drawn =
    sealed_link 1 (owner_key drawn) (root_key drawn 0) (serial_of 1 5)
    ∷ sealed_link 3 (root_key drawn 0) (root_key drawn 1) (serial_of 1 6)
    ∷ sealed_link 4 (root_key drawn 1) (root_key drawn 2) (serial_of 1 7)
    ∷ sealed_link 5 (root_key drawn 1) (root_key drawn 3) (serial_of 1 8)
    ∷ sealed_link 7 (root_key drawn 2) (root_key drawn 4) (serial_of 1 9)
    ∷ []

-- the root's name, which is empty
unfoldable pub root_name : List ℕ → PlainContent
root_name drawn = sealed_content 1 (root_key drawn 4) 1 (serial_of 1 10) []

unfoldable pub root_payload : List ℕ → PlainPayload
root_payload drawn = record { note = StrictRoot; links = root_links drawn; contents = root_name drawn ∷ [] }

-- the first epoch, and the command that makes the root
abbrev pub epoch_batch : Batch
epoch_batch = record { type_of = NewEpoch; number = 1; epoch = 1; payload = [] }

abbrev pub root_batch : List ℕ → Batch
root_batch drawn = record { type_of = Command; number = 2; epoch = 1; payload = spell_payload (root_payload drawn) }

-- the whole file, with its last gate closed
unfoldable pub fresh_image : List ℕ → List ℕ
fresh_image drawn = image (piece drawn 0) (epoch_batch ∷ root_batch drawn ∷ []) ++ 0 ∷ []
