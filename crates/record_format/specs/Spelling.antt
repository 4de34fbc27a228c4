-- The one spelling of each payload, from its values to bytes: this project's own, docs/FORMAT.md, "Records" and
-- "Notes and payloads". No reading has a part in it.
use Rattle.std.specs.Prelude.{ℕ, List, [], ◌∷◌, ◌++◌, length}
use Rattle.std.specs.List.{flat_map}
use Rattle.std.specs.Int.{w32, w64, to_be_bytes}
use Rattle.record_format.specs.declared.link.LinkRecord.{LinkRecord}
use Rattle.record_format.specs.declared.note.Note.{Note}
use Rattle.record_format.specs.declared.note.Note.TheVariants.{Root, NewHolder, NewFolder, NewFile, Rewrite, NameFile, NameFolder, DropFile}
use Rattle.record_format.specs.declared.note.Note.TheVariants.{DropFolder, ShiftFile, ShiftFolder, Give, Take, StrictRoot, Upgrade}
use Rattle.record_format.specs.Plain.{PlainContent, PlainPayload}

-- a number as four bytes, the highest first
unfoldable pub be32 : ℕ → List ℕ
be32 n = to_be_bytes w32 n

-- a number as eight bytes, the highest first
unfoldable pub be64 : ℕ → List ℕ
be64 n = to_be_bytes w64 n

-- a link before its cipher bytes: 34 bytes
unfoldable pub link_head : LinkRecord → List ℕ
link_head r =
    1 ∷ r.kind ∷ (be32 r.from_id ++ (be32 r.to_id ++ (be64 r.from_serial.0 ++ (be64 r.to_serial.0 ++ be64 r.nonce))))

-- a link: its head, its cipher bytes, its tag
unfoldable pub spell_link : LinkRecord → List ℕ
spell_link r = link_head r ++ (r.cipher ++ r.tag)

-- a content before its cipher bytes: 26 bytes
unfoldable pub content_head : PlainContent → List ℕ
content_head r = 2 ∷ r.kind ∷ (be32 r.object ++ (be64 r.key_serial.0 ++ (be64 r.nonce ++ be32 (length r.cipher))))

-- a content: its head, its cipher bytes, its tag
unfoldable pub spell_content : PlainContent → List ℕ
spell_content r = content_head r ++ (r.cipher ++ r.tag)

-- a note: its code, and its fields in order
unfoldable pub spell_note : Note → List ℕ
spell_note Root = 1 ∷ []
spell_note (NewHolder holder check) = 2 ∷ (be32 holder.0 ++ check)
spell_note (NewFolder folder parent) = 3 ∷ (be32 folder.0 ++ be32 parent.0)
spell_note (NewFile file folder) = 4 ∷ (be32 file.0 ++ be32 folder.0)
spell_note (Rewrite file) = 5 ∷ be32 file.0
spell_note (NameFile file) = 6 ∷ be32 file.0
spell_note (NameFolder folder) = 7 ∷ be32 folder.0
spell_note (DropFile file) = 8 ∷ be32 file.0
spell_note (DropFolder folder) = 9 ∷ be32 folder.0
spell_note (ShiftFile file into) = 10 ∷ (be32 file.0 ++ be32 into.0)
spell_note (ShiftFolder folder into) = 11 ∷ (be32 folder.0 ++ be32 into.0)
spell_note (Give holder folder) = 12 ∷ (be32 holder.0 ++ be32 folder.0)
spell_note (Take holder folder) = 13 ∷ (be32 holder.0 ++ be32 folder.0)
spell_note StrictRoot = 14 ∷ []
spell_note Upgrade = 15 ∷ []

-- a payload: the note, how many links and contents there are, the links, the contents
unfoldable pub spell_payload : PlainPayload → List ℕ
spell_payload p =
    spell_note p.note
    ++ (be32 (length p.links)
    ++ (be32 (length p.contents) ++ (flat_map spell_link p.links ++ flat_map spell_content p.contents)))
