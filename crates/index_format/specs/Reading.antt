-- Reading a checkpoint file, from left to right.
use Rattle.std.specs.Prelude.{◌≡◌, ℕ, List, ◌++◌, length, Result, Ok, Err, if◌then◌else◌}
use Rattle.std.specs.Int.{w32, w64}
use Rattle.std.specs.Str.{bytes_eq}
use Rattle.index_format.specs.Plain.{PlainState, IndexBody}
use Rattle.index_format.specs.Spelling.{magic}
use Rattle.index_format.specs.declared.head.IndexHead.{IndexHead}
use Rattle.index_format.specs.declared.rows.CheckRow.{CheckRow}
use Rattle.index_format.specs.declared.rows.ContentRow.{ContentRow}
use Rattle.index_format.specs.declared.rows.FileRow.{FileRow}
use Rattle.index_format.specs.declared.rows.FolderRow.{FolderRow}
use Rattle.index_format.specs.declared.rows.GrantRow.{GrantRow}
use Rattle.index_format.specs.declared.rows.KeyRow.{KeyRow}
use Rattle.index_format.specs.declared.rows.LinkRow.{LinkRow}
use Rattle.index_format.specs.declared.rows.MarkRow.{MarkRow}
use Rattle.index_format.specs.declared.rows.StateNumbers.{StateNumbers}
use Rattle.record_format.specs.Fields.{Read, ◌>>=◌, byte_between, bytes_at, number_at, repeat_at}
use Rattle.record_format.specs.Reading.{Gives}
use Rattle.record_format.specs.declared.fault.Stop.{Stop}

unfoldable pub numbers_at : List ℕ → Read StateNumbers
numbers_at bytes = do
  version ← byte_between 0 255 bytes
  epoch ← number_at w32 version.1
  count ← number_at w32 epoch.1
  folders_made ← number_at w32 count.1
  files_made ← number_at w32 folders_made.1
  holders_made ← number_at w32 files_made.1
  Ok (
    record {
      version = version.0;
      epoch = epoch.0;
      count = count.0;
      folders_made = folders_made.0;
      files_made = files_made.0;
      holders_made = holders_made.0;
    },
    holders_made.1,
  )

unfoldable pub folder_at : List ℕ → Read FolderRow
folder_at bytes = do
  id ← number_at w32 bytes
  parent ← number_at w32 id.1
  Ok (record { id = id.0; parent = parent.0 }, parent.1)

unfoldable pub file_at : List ℕ → Read FileRow
file_at bytes = do
  id ← number_at w32 bytes
  folder ← number_at w32 id.1
  Ok (record { id = id.0; folder = folder.0 }, folder.1)

unfoldable pub check_at : List ℕ → Read CheckRow
check_at bytes = do
  check ← bytes_at 32 bytes
  Ok (record { 0 = check.0 }, check.1)

unfoldable pub grant_at : List ℕ → Read GrantRow
grant_at bytes = do
  holder ← number_at w32 bytes
  folder ← number_at w32 holder.1
  Ok (record { holder = holder.0; folder = folder.0 }, folder.1)

unfoldable pub key_at : List ℕ → Read KeyRow
key_at bytes = do
  place ← byte_between 0 255 bytes
  id ← number_at w32 place.1
  serial ← number_at w64 id.1
  Ok (record { place = place.0; id = id.0; serial = serial.0 }, serial.1)

unfoldable pub mark_at : List ℕ → Read MarkRow
mark_at bytes = do
  place ← byte_between 0 255 bytes
  id ← number_at w32 place.1
  Ok (record { place = place.0; id = id.0 }, id.1)

unfoldable pub link_row_at : List ℕ → Read LinkRow
link_row_at bytes = do
  kind ← byte_between 0 255 bytes
  from_id ← number_at w32 kind.1
  to_id ← number_at w32 from_id.1
  batch ← number_at w32 to_id.1
  index ← number_at w32 batch.1
  Ok (record { kind = kind.0; from_id = from_id.0; to_id = to_id.0; batch = batch.0; index = index.0 }, index.1)

unfoldable pub content_row_at : List ℕ → Read ContentRow
content_row_at bytes = do
  kind ← byte_between 0 255 bytes
  object ← number_at w32 kind.1
  batch ← number_at w32 object.1
  index ← number_at w32 batch.1
  Ok (record { kind = kind.0; object = object.0; batch = batch.0; index = index.0 }, index.1)

-- rows behind the number of them
unfoldable pub counted_at : {A : Type 0} → (List ℕ → Read A) → List ℕ → Read (List A)
counted_at value_at bytes = do
  count ← number_at w32 bytes
  repeat_at value_at count.0 count.1

-- a state, and the bytes after it
unfoldable pub state_at : List ℕ → Read PlainState
state_at bytes = do
  numbers ← numbers_at bytes
  folders ← counted_at folder_at numbers.1
  files ← counted_at file_at folders.1
  checks ← repeat_at check_at numbers.0.holders_made files.1
  grants ← counted_at grant_at checks.1
  keys ← counted_at key_at grants.1
  marks ← counted_at mark_at keys.1
  Ok (
    record {
      numbers = numbers.0;
      folders = folders.0;
      files = files.0;
      checks = checks.0;
      grants = grants.0;
      keys = keys.0;
      marks = marks.0;
    },
    marks.1,
  )

-- a body, and the bytes after it
unfoldable pub body_at : List ℕ → Read IndexBody
body_at bytes = do
  state ← state_at bytes
  links ← counted_at link_row_at state.1
  contents ← counted_at content_row_at links.1
  Ok (record { state = state.0; links = links.0; contents = contents.0 }, contents.1)

-- the first nine bytes of a checkpoint file, and the bytes after them
unfoldable pub magic_at : List ℕ → Read (List ℕ)
magic_at bytes = do
  first ← bytes_at 9 bytes
  if bytes_eq first.0 magic then Ok first else Err (length bytes)

-- a head, and the bytes after it
unfoldable pub head_at : List ℕ → Read IndexHead
head_at bytes = do
  first ← magic_at bytes
  batch ← number_at w32 first.1
  tag ← bytes_at 32 batch.1
  body_len ← number_at w32 tag.1
  Ok (record { batch = batch.0; tag = tag.0; body_len = body_len.0 }, body_len.1)

-- what is spelled at the beginning of the bytes is what the result gives, with what stands behind it, unless memory ran out
abbrev pub Finds : {X A : Type 0} → (X → A × List ℕ) → (A → List ℕ) → (A → Type 0) → Result X Stop → List ℕ → Type 0
Finds {X} {A} view spell Fits result bytes =
    (value : A) (rest : List ℕ) → Fits value → bytes ≡ spell value ++ rest → Gives view result (Ok (value, rest))
