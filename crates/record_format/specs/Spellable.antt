-- Which records have a spelling: docs/FORMAT.md, "Records" and "Notes and payloads".
use Rattle.std.specs.Prelude.{◌≡◌, ℕ, ◌<◌, ◌≤◌, ◌^◌, ◌==◌, if◌then◌else◌, length, All}
use Rattle.cry_base.specs.Limits.{most_name_bytes, most_text_bytes}
use Rattle.record_format.specs.declared.link.LinkRecord.{LinkRecord}
use Rattle.record_format.specs.declared.note.Note.{Note}
use Rattle.record_format.specs.declared.note.Note.TheVariants.{Root, NewHolder, NewFolder, NewFile, Rewrite, NameFile, NameFolder, DropFile}
use Rattle.record_format.specs.declared.note.Note.TheVariants.{DropFolder, ShiftFile, ShiftFolder, Give, Take, StrictRoot, Upgrade}
use Rattle.record_format.specs.Plain.{PlainContent, PlainPayload}

-- the fewest bytes that the text of a content of this kind has: 2 a file, 3 a holder's key, else a folder's name
abbrev pub shortest_text : ℕ → ℕ
shortest_text kind = if kind == 2 then 2 else (if kind == 3 then 32 else 0)

-- the most bytes that it has
abbrev pub longest_text : ℕ → ℕ
longest_text kind = if kind == 2 then most_text_bytes else (if kind == 3 then 32 else most_name_bytes)

-- a link of a known kind, whose fields have the sizes of the format
pub record IsLink (r : LinkRecord) : Type 0 where
  pub kind_from_one : 1 ≤ r.kind
  pub kind_to_eleven : r.kind ≤ 11
  pub from_id : r.from_id < 2 ^ 32
  pub to_id : r.to_id < 2 ^ 32
  pub from_serial : r.from_serial.0 < 2 ^ 64
  pub to_serial : r.to_serial.0 < 2 ^ 64
  pub nonce : r.nonce < 2 ^ 64
  pub cipher : length r.cipher ≡ 32
  pub tag : length r.tag ≡ 32

-- a content of a known kind with a text of a length in its range, whose fields have the sizes of the format
pub record IsContent (r : PlainContent) : Type 0 where
  pub kind_from_one : 1 ≤ r.kind
  pub kind_to_three : r.kind ≤ 3
  pub object : r.object < 2 ^ 32
  pub key_serial : r.key_serial.0 < 2 ^ 64
  pub nonce : r.nonce < 2 ^ 64
  pub text_from : shortest_text r.kind ≤ length r.cipher
  pub text_to : length r.cipher ≤ longest_text r.kind
  pub tag : length r.tag ≡ 32

-- two ids of four bytes
abbrev pub AreIds : ℕ → ℕ → Type 0
AreIds first second = (first < 2 ^ 32) × (second < 2 ^ 32)

-- a note, whose fields have the sizes of the format
abbrev pub IsNote : Note → Type 0
IsNote Root = Unit {0}
IsNote (NewHolder holder check) = (holder.0 < 2 ^ 32) × (length check ≡ 32)
IsNote (NewFolder folder parent) = AreIds folder.0 parent.0
IsNote (NewFile file folder) = AreIds file.0 folder.0
IsNote (Rewrite file) = file.0 < 2 ^ 32
IsNote (NameFile file) = file.0 < 2 ^ 32
IsNote (NameFolder folder) = folder.0 < 2 ^ 32
IsNote (DropFile file) = file.0 < 2 ^ 32
IsNote (DropFolder folder) = folder.0 < 2 ^ 32
IsNote (ShiftFile file into) = AreIds file.0 into.0
IsNote (ShiftFolder folder into) = AreIds folder.0 into.0
IsNote (Give holder folder) = AreIds holder.0 folder.0
IsNote (Take holder folder) = AreIds holder.0 folder.0
IsNote StrictRoot = Unit {0}
IsNote Upgrade = Unit {0}

-- a payload with a spelling: each of its parts has one, and its counts fit four bytes
pub record IsSpellable (p : PlainPayload) : Type 0 where
  pub note : IsNote p.note
  pub link_count : length p.links < 2 ^ 32
  pub content_count : length p.contents < 2 ^ 32
  pub links : All IsLink p.links
  pub contents : All IsContent p.contents
