-- The bytes of a journal: its records sealed, its payloads, its batches, its image. This project's own, docs/FORMAT.md,
-- "Records", "Notes and payloads" and "The file".
use Rattle.std.specs.Prelude.{ℕ, List, [], ◌∷◌, ◌++◌, map}
use Rattle.chacha_seal.specs.Keys.{KeyParts}
use Rattle.chacha_seal.specs.Sealing.{check_of}
use Rattle.record_format.specs.declared.link.LinkRecord.{LinkRecord}
use Rattle.record_format.specs.declared.note.Note.{Note}
use Rattle.record_format.specs.Noted.Note.{Upgrade}
use Rattle.record_format.specs.Plain.{PlainContent, PlainPayload}
use Rattle.commit_journal.specs.Image.{Batch, image}
use Rattle.commit_journal.specs.Laws.{batches_from}
use Rattle.commit_journal.specs.Placed.{PlainBody, Commands, NewEpoch}
use Rattle.key_links.specs.Sealed.{sealed_link, sealed_content}
use Rattle.role_graph.specs.Roles.{role_id}
use Rattle.move_plan.specs.Noting.{note_of}
use Rattle.public_fold.specs.Records.{Link, Content, sealing_role, text_of}
use Rattle.public_fold.specs.KeyStep.{Stepped}
use Rattle.public_fold.specs.Journal.{Entry, Journal, Stand, nothing, first_key, root_note, entry_step, stand_then}
use Rattle.public_fold.specs.Journal.Entry.{Session, Made, Did, Upgraded}
use Rattle.journal_bytes.specs.Keys.{owner_parts, entry_keys, bytes_in}
use Rattle.journal_bytes.specs.Notes.{declared_note}

-- a link, sealed under the keys of its serials
unfoldable pub link_record : List KeyParts → Link → LinkRecord
link_record keys l =
    sealed_link l.edge.kind
    (record { id = role_id l.edge.from; serial = l.from_serial; bytes = bytes_in keys l.from_serial })
    (record { id = role_id l.edge.to; serial = l.to_serial; bytes = bytes_in keys l.to_serial })
    l.nonce

-- a content, sealed under the key of its serial
unfoldable pub content_record : List KeyParts → Content → PlainContent
content_record keys c =
    sealed_content c.piece.kind
    (record { id = role_id (sealing_role c.piece); serial = c.key_serial; bytes = bytes_in keys c.key_serial })
    c.piece.object c.nonce (text_of c.piece)

-- the payload of a note with what its step publishes
unfoldable pub step_payload : List KeyParts → Note → Stepped → PlainPayload
step_payload keys note step = record {
  note = note;
  links = map (link_record keys) step.links;
  contents = map (content_record keys) step.contents;
}

-- the keys once an entry has drawn its own
unfoldable pub keys_then : List KeyParts → Stand → Entry → List KeyParts
keys_then keys at entry = keys ++ entry_keys at entry

-- what the batch of an entry carries. A new holder's check is that of the key that was drawn
unfoldable pub entry_body : List KeyParts → Stand → Entry → PlainBody
entry_body keys at Session = NewEpoch
entry_body keys at (Made version drawn) =
    Commands (step_payload keys (declared_note (root_note version)) (entry_step at (Made version drawn)))
entry_body keys at (Did request drawn) =
    Commands (step_payload keys (declared_note (note_of at.store request (check_of (first_key drawn)))) (entry_step at (Did request drawn)))
entry_body keys at (Upgraded drawn) = Commands (step_payload keys (declared_note Upgrade) (entry_step at (Upgraded drawn)))

-- what the batches of entries carry, one after another, with the keys so far
unfoldable pub bodies_from : List KeyParts → Stand → List Entry → List PlainBody
bodies_from keys at [] = []
bodies_from keys at (entry ∷ entries) =
    entry_body (keys_then keys at entry) at entry ∷ bodies_from (keys_then keys at entry) (stand_then at entry) entries

-- what the batches of a journal carry: the n-th is that of entry n
unfoldable pub bodies_of : List ℕ → Journal → List PlainBody
bodies_of owner m = bodies_from (owner_parts owner ∷ []) nothing m

-- the batches of a journal, numbered, each in its epoch
unfoldable pub batches_of : List ℕ → Journal → List Batch
batches_of owner m = batches_from 0 0 (bodies_of owner m)

-- the store file of a journal, without the gate behind its last batch
unfoldable pub image_of : List ℕ → Journal → List ℕ
image_of owner m = image owner (batches_of owner m)
