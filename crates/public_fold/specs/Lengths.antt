-- How long a store file is. This project's own, docs/FORMAT.md, "Notes and payloads" and "The store file".
use Rattle.std.specs.Prelude.{ℕ, ◌+◌, ◌*◌, List, [], ◌∷◌, length, sum_by}
use Rattle.cry_base.specs.Layout.{batch_len, header_len}
use Rattle.record_format.specs.Noted.{Note}
use Rattle.record_format.specs.Noted.Note.{Root, NewHolder, NewFolder, NewFile, Rewrite, NameFile, NameFolder, DropFile, DropFolder}
use Rattle.record_format.specs.Noted.Note.{ShiftFile, ShiftFolder, Give, Take, StrictRoot, Upgrade}
use Rattle.move_plan.specs.Noting.{note_of}
use Rattle.public_fold.specs.Records.{Content, text_of}
use Rattle.public_fold.specs.KeyStep.{Stepped}
use Rattle.public_fold.specs.Journal.{Entry, Journal, Stand, nothing, root_note, entry_step, stand_then}
use Rattle.public_fold.specs.Journal.Entry.{Session, Made, Did, Upgraded}

-- the bytes of a note: its code, four for each number, 32 for a holder's check
unfoldable pub note_len : Note → ℕ
note_len Root = 1
note_len (NewHolder h check) = 37
note_len (NewFolder f p) = 9
note_len (NewFile x f) = 9
note_len (Rewrite x) = 5
note_len (NameFile x) = 5
note_len (NameFolder f) = 5
note_len (DropFile x) = 5
note_len (DropFolder f) = 5
note_len (ShiftFile x g) = 9
note_len (ShiftFolder g q) = 9
note_len (Give h f) = 9
note_len (Take h f) = 9
note_len StrictRoot = 1
note_len Upgrade = 1

-- a content has 58 bytes beside its text, a link has 98
unfoldable pub content_len : Content → ℕ
content_len c = 58 + length (text_of c.piece)

-- the bytes of a payload: the note, two counts, the links, the contents
unfoldable pub payload_len : Note → Stepped → ℕ
payload_len note step = note_len note + 8 + 98 * length step.links + sum_by content_len step.contents

-- an epoch's payload is empty
unfoldable pub entry_payload : Stand → Entry → ℕ
entry_payload at Session = 0
entry_payload at (Made version keys) = payload_len (root_note version) (entry_step at (Made version keys))
entry_payload at (Did request keys) = payload_len (note_of at.store request []) (entry_step at (Did request keys))
entry_payload at (Upgraded keys) = payload_len Upgrade (entry_step at (Upgraded keys))

-- the payloads' lengths, one after another
unfoldable pub payloads_from : Stand → List Entry → List ℕ
payloads_from at [] = []
payloads_from at (entry ∷ entries) = entry_payload at entry ∷ payloads_from (stand_then at entry) entries

-- the end of the log: the header's 42 bytes, and 110 more than its payload for each batch
unfoldable pub end_of : Journal → ℕ
end_of m = header_len + sum_by (λ len. batch_len + len) (payloads_from nothing m)
