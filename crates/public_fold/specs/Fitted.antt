-- Which payloads fit what stands, and what stands after them. This project's own, docs/FORMAT.md, "The key step" and "Reading".
use Rattle.std.specs.Prelude.{Bool, true, false, ◌&&◌, ◌==◌, nat_le, if◌then◌else◌, List, [], ◌∷◌, length}
use Rattle.record_format.specs.declared.link.LinkRecord.{LinkRecord}
use Rattle.record_format.specs.Plain.{PlainContent, PlainPayload}
use Rattle.record_format.specs.Spellable.{shortest_text, longest_text}
use Rattle.role_graph.specs.Roles.{role_id}
use Rattle.record_format.specs.Noted.{Note}
use Rattle.record_format.specs.Told.{told_note}
use Rattle.public_fold.specs.Journal.{Stand, note_step}
use Rattle.public_fold.specs.KeyStep.{Stepped}
use Rattle.public_fold.specs.Records.{Link, Content}
use Rattle.public_fold.specs.StandFits.{note_fits}
use Rattle.public_fold.specs.Told.{told_store}

-- the record's head is that of the link that is due: kind, ids, serials, nonce
unfoldable pub has_link_head : Link → LinkRecord → Bool
has_link_head l r =
    (r.kind == l.edge.kind)
    && ((r.from_id == role_id l.edge.from)
    && ((r.to_id == role_id l.edge.to)
    && ((r.from_serial.0 == l.from_serial)
    && ((r.to_serial.0 == l.to_serial) && (r.nonce == l.nonce)))))

-- the length is in the range of its kind; the root's name is empty, and no other text is
unfoldable pub has_length : PlainContent → Bool
has_length r =
    (nat_le (shortest_text r.kind) (length r.cipher) && nat_le (length r.cipher) (longest_text r.kind))
    && (if (r.kind == 1) && (r.object == 1) then length r.cipher == 0 else nat_le 1 (length r.cipher))

-- the record's head is that of the content that is due: kind, object, the serial of the key, nonce, and a right length
unfoldable pub has_content_head : Content → PlainContent → Bool
has_content_head c r =
    (r.kind == c.piece.kind)
    && ((r.object == c.piece.object)
    && ((r.key_serial.0 == c.key_serial)
    && ((r.nonce == c.nonce) && has_length r)))

-- as many as are due, each one that is due, in the same order
unfoldable pub are_due : {X Y : Type 0} → (X → Y → Bool) → List X → List Y → Bool
are_due is_due [] [] = true
are_due is_due [] (y ∷ ys) = false
are_due is_due (x ∷ xs) [] = false
are_due is_due (x ∷ xs) (y ∷ ys) = is_due x y && are_due is_due xs ys

-- the key step of a note, from what everyone may see
unfoldable pub told_step : Stand → Note → Stepped
told_step at note = note_step at note (told_store at.store note)

-- the records of the payload are those that the step publishes, as far as their heads tell
unfoldable pub has_heads : Stepped → PlainPayload → Bool
has_heads step p = are_due has_link_head step.links p.links && are_due has_content_head step.contents p.contents

-- the note fits what stands, and the records are due
unfoldable pub fits_step : Stand → Note → Stepped → PlainPayload → Bool
fits_step at note step p = note_fits at note step && has_heads step p

unfoldable pub payload_fits : Stand → PlainPayload → Bool
payload_fits at p = fits_step at (told_note p.note) (told_step at (told_note p.note)) p

-- what stands after a note
unfoldable pub told_stand : Stand → Note → Stand
told_stand at note = record { store = told_store at.store note; keys = (told_step at note).after }
