-- The payload that bytes spell, or the place of the first field that is cut short or has a value that isn't allowed:
-- this project's own, docs/FORMAT.md, "Notes and payloads".
use Rattle.std.specs.Prelude.{ℕ, ◌≡◌, ◌≤◌, ◌-◌, List, ◌++◌, length, take, Result, Ok, Err, ◌==◌, ◌&&◌, ◌||◌, nat_le, if◌then◌else◌}
use Rattle.std.specs.Int.{w32, w64}
use Rattle.record_format.specs.declared.fault.PayloadFault.{PayloadFault}
use Rattle.record_format.specs.declared.fault.PayloadFault.TheVariants as faults
use Rattle.record_format.specs.declared.fault.Stop.{Stop}
use Rattle.record_format.specs.declared.fault.Stop.TheVariants as stops
use Rattle.record_format.specs.declared.link.LinkRecord.{LinkRecord}
use Rattle.record_format.specs.declared.note.Note.{Note}
use Rattle.record_format.specs.declared.note.Note.TheVariants.{Root, NewHolder, NewFolder, NewFile, Rewrite, NameFile, NameFolder, DropFile}
use Rattle.record_format.specs.declared.note.Note.TheVariants.{DropFolder, ShiftFile, ShiftFolder, Give, Take, StrictRoot, Upgrade}
use Rattle.record_format.specs.declared.payload.Payload.{Payload}
use Rattle.record_format.specs.Fields.{Read, ◌>>=◌, byte_between, bytes_at, number_at, number_between, repeat_at}
use Rattle.record_format.specs.Plain.{PlainContent, PlainPayload, plain_payload}
use Rattle.record_format.specs.Spellable.{IsSpellable, shortest_text, longest_text}
use Rattle.record_format.specs.Spelling.{spell_payload}

-- the note of a code with one id: 5 to 9
abbrev pub note_of_one : ℕ → ℕ → Note
note_of_one code id =
    if code == 5 then Rewrite (record { 0 = id })
    else (if code == 6 then NameFile (record { 0 = id })
    else (if code == 7 then NameFolder (record { 0 = id })
    else (if code == 8 then DropFile (record { 0 = id }) else DropFolder (record { 0 = id }))))

-- the note of a code with two ids: 3, 4, and 10 to 13
abbrev pub note_of_two : ℕ → ℕ → ℕ → Note
note_of_two code first second =
    if code == 3 then NewFolder (record { 0 = first }) (record { 0 = second })
    else (if code == 4 then NewFile (record { 0 = first }) (record { 0 = second })
    else (if code == 10 then ShiftFile (record { 0 = first }) (record { 0 = second })
    else (if code == 11 then ShiftFolder (record { 0 = first }) (record { 0 = second })
    else (if code == 12 then Give (record { 0 = first }) (record { 0 = second })
    else Take (record { 0 = first }) (record { 0 = second })))))

-- the holder and the check of a new holder
unfoldable pub new_holder_at : List ℕ → Read Note
new_holder_at bytes = do
  holder ← number_at w32 bytes
  check ← bytes_at 32 holder.1
  Ok (NewHolder (record { 0 = holder.0 }) check.0, check.1)

unfoldable pub one_id_at : ℕ → List ℕ → Read Note
one_id_at code bytes = do
  id ← number_at w32 bytes
  Ok (note_of_one code id.0, id.1)

unfoldable pub two_ids_at : ℕ → List ℕ → Read Note
two_ids_at code bytes = do
  first ← number_at w32 bytes
  second ← number_at w32 first.1
  Ok (note_of_two code first.0 second.0, second.1)

-- the note of a code without fields: 1, 14 or 15
abbrev pub note_of_none : ℕ → Note
note_of_none code = if code == 1 then Root else (if code == 14 then StrictRoot else Upgrade)

-- the fields of the note of this code
unfoldable pub note_fields_at : ℕ → List ℕ → Read Note
note_fields_at code bytes =
    if (code == 1) || nat_le 14 code then Ok (note_of_none code, bytes)
    else (if code == 2 then new_holder_at bytes
    else (if nat_le 5 code && nat_le code 9 then one_id_at code bytes else two_ids_at code bytes))

unfoldable pub note_at : List ℕ → Read Note
note_at bytes = do
  code ← byte_between 1 15 bytes
  note_fields_at code.0 code.1

-- a link of its fields, in their order
abbrev pub link_of : ℕ → ℕ → ℕ → ℕ → ℕ → ℕ → List ℕ → List ℕ → LinkRecord
link_of kind from_id to_id from_serial to_serial nonce cipher tag = record {
  kind = kind;
  from_id = from_id;
  to_id = to_id;
  from_serial = record { 0 = from_serial };
  to_serial = record { 0 = to_serial };
  nonce = nonce;
  cipher = cipher;
  tag = tag;
}

unfoldable pub link_at : List ℕ → Read LinkRecord
link_at bytes = do
  one ← byte_between 1 1 bytes
  kind ← byte_between 1 11 one.1
  from_id ← number_at w32 kind.1
  to_id ← number_at w32 from_id.1
  from_serial ← number_at w64 to_id.1
  to_serial ← number_at w64 from_serial.1
  nonce ← number_at w64 to_serial.1
  cipher ← bytes_at 32 nonce.1
  tag ← bytes_at 32 cipher.1
  Ok (link_of kind.0 from_id.0 to_id.0 from_serial.0 to_serial.0 nonce.0 cipher.0 tag.0, tag.1)

-- a content of its fields, in their order
abbrev pub content_of : ℕ → ℕ → ℕ → ℕ → List ℕ → List ℕ → PlainContent
content_of kind object key_serial nonce cipher tag = record {
  kind = kind;
  object = object;
  key_serial = record { 0 = key_serial };
  nonce = nonce;
  cipher = cipher;
  tag = tag;
}

unfoldable pub content_at : List ℕ → Read PlainContent
content_at bytes = do
  two ← byte_between 2 2 bytes
  kind ← byte_between 1 3 two.1
  object ← number_at w32 kind.1
  key_serial ← number_at w64 object.1
  nonce ← number_at w64 key_serial.1
  len ← number_between w32 (shortest_text kind.0) (longest_text kind.0) nonce.1
  cipher ← bytes_at len.0 len.1
  tag ← bytes_at 32 cipher.1
  Ok (content_of kind.0 object.0 key_serial.0 nonce.0 cipher.0 tag.0, tag.1)

-- a payload, and the bytes after it
unfoldable pub payload_at : List ℕ → Read PlainPayload
payload_at bytes = do
  note ← note_at bytes
  link_count ← number_at w32 note.1
  content_count ← number_at w32 link_count.1
  links ← repeat_at link_at link_count.0 content_count.1
  contents ← repeat_at content_at content_count.0 links.1
  Ok (record { note = note.0; links = links.0; contents = contents.0 }, contents.1)

-- a payload that all of the bytes spell
unfoldable pub whole_payload : List ℕ → Result PlainPayload ℕ
whole_payload bytes = do
  payload ← payload_at bytes
  if length payload.1 == 0 then Ok payload.0 else Err (length payload.1)

-- the place of a field, from how many bytes are left from it on
abbrev pub at_place : {A : Type 0} → ℕ → Result A ℕ → Result A ℕ
at_place size (Ok x) = Ok x
at_place size (Err left) = Err (size - left)

-- the payload that the bytes spell, or the place of the first bad field
abbrev pub payload_or_place : List ℕ → Result PlainPayload ℕ
payload_or_place bytes = at_place (length bytes) (whole_payload bytes)

-- what a reader gave, seen by view, is what the reading gives, unless memory ran out
abbrev pub Stops : {Y : Type 0} → Stop → Result Y ℕ → Type 0
Stops (stops.Bad left) read = read ≡ Err left
Stops stops.OutOfMemory read = Unit {0}

abbrev pub Gives : {X Y : Type 0} → (X → Y) → Result X Stop → Result Y ℕ → Type 0
Gives view (Ok x) read = read ≡ Ok (view x)
Gives view (Err stop) read = Stops stop read

-- the answer is the payload or the place, unless memory ran out
abbrev pub Faults : PayloadFault → Result PlainPayload ℕ → Type 0
Faults (faults.Format at) wanted = wanted ≡ Err at
Faults faults.OutOfMemory wanted = Unit {0}

abbrev pub Answers : Result Payload PayloadFault → Result PlainPayload ℕ → Type 0
Answers (Ok payload) wanted = wanted ≡ Ok (plain_payload payload)
Answers (Err fault) wanted = Faults fault wanted

-- the place is one of the bytes, or the one behind the last where a field is missing
abbrev pub IsPlaceIn : List ℕ → PayloadFault → Type 0
IsPlaceIn bytes (faults.Format at) = at ≤ length bytes
IsPlaceIn bytes faults.OutOfMemory = Unit {0}

-- what stands before the place begins the spelling of a payload: so nothing before it is wrong
abbrev pub EndsABeginning : List ℕ → PayloadFault → Type 0
EndsABeginning bytes (faults.Format at) = (p : PlainPayload) × IsSpellable p × (more : List ℕ) × (spell_payload p ≡ take at bytes ++ more)
EndsABeginning bytes faults.OutOfMemory = Unit {0}
