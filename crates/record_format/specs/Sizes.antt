-- How many bytes each spelling has.
use Rattle.std.specs.Prelude.{ℕ, ◌+◌, ◌*◌, length}
use Rattle.std.specs.List.{sum_by}
use Rattle.record_format.specs.declared.note.Note.{Note}
use Rattle.record_format.specs.declared.note.Note.TheVariants.{Root, NewHolder, NewFolder, NewFile, Rewrite, NameFile, NameFolder, DropFile}
use Rattle.record_format.specs.declared.note.Note.TheVariants.{DropFolder, ShiftFile, ShiftFolder, Give, Take, StrictRoot, Upgrade}
use Rattle.record_format.specs.Plain.{PlainContent, PlainPayload}

-- a code of one byte, ids of four, a check of 32
abbrev pub note_size : Note → ℕ
note_size Root = 1
note_size (NewHolder holder check) = 37
note_size (NewFolder folder parent) = 9
note_size (NewFile file folder) = 9
note_size (Rewrite file) = 5
note_size (NameFile file) = 5
note_size (NameFolder folder) = 5
note_size (DropFile file) = 5
note_size (DropFolder folder) = 5
note_size (ShiftFile file into) = 9
note_size (ShiftFolder folder into) = 9
note_size (Give holder folder) = 9
note_size (Take holder folder) = 9
note_size StrictRoot = 1
note_size Upgrade = 1

-- a head of 26 bytes, the text, a tag of 32
abbrev pub content_size : PlainContent → ℕ
content_size r = 58 + length r.cipher

-- the note, two counts of four bytes, links of 98 bytes, contents
abbrev pub payload_size : PlainPayload → ℕ
payload_size p = note_size p.note + 8 + 98 * length p.links + sum_by content_size p.contents
