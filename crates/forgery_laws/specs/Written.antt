-- What is shown of a store of which anybody may have written any byte. Whoever holds a key of a journal is shown names and
-- files that the journal once wrote, each for the folder or the file that it is shown for, if no record stands in the bytes that
-- the journal did not publish and that has a right tag under one of its keys all the same: a forged one. That an old name, or an old
-- file, is shown in the place of a newer one is not left out. This project's own, docs/FORMAT.md, "Records" and "Reading".
use Rattle.std.specs.Prelude.{◌≡◌, ◌≢◌, ◌⊎◌, ◌<◌, ℕ, List, Ok}
use Rattle.chacha_seal.specs.Keys.{KeyParts}
use Rattle.closure_laws.specs.History.{Published, history}
use Rattle.closure_laws.specs.Seen.{sight_of}
use Rattle.cry_base.specs.Sets.{In}
use Rattle.cry_base.specs.Store.{Store, FolderEntry, FileEntry, way_to_root}
use Rattle.cry_base.specs.declared.client.Bundle.{Bundle}
use Rattle.log_visits.specs.Asking.{audited}
use Rattle.log_visits.specs.Judging.{first_key, who_of}
use Rattle.log_visits.specs.View.{Line, file_line, folder_line}
use Rattle.log_visits.specs.Visiting.{Reading}
use Rattle.journal_bytes.specs.Keys.{all_keys, key_bytes}
use Rattle.move_plan.specs.Fitting.{public_of}
use Rattle.public_fold.specs.Journal.{Journal}
use Rattle.public_fold.specs.Records.{Content}
use Rattle.role_graph.specs.Rights.{Who}
use Rattle.trail_audit.specs.Derived.{PlainSeen, seen_of_sight}
use Rattle.trail_audit.specs.Forged.{IsForged, records_of}
use Rattle.trail_audit.specs.Records.{PlainRecord, sealing_serial, spell_record}

-- each number is that of a byte
abbrev pub AreBytes : List ℕ → Type 0
AreBytes bytes = (b : ℕ) → In b bytes → b < 256

-- the bundle's key has the bytes of one of the journal's keys: of the owner's, of a holder's, or of any that was ever drawn
abbrev pub HasKeyOf : List ℕ → Journal → Bundle → Type 0
HasKeyOf owner m bundle = (key : KeyParts) × In key (all_keys owner m) × ((first_key bundle).1 ≡ key.bytes)

-- the journal sealed a record with these bytes under the bytes of this key
abbrev pub IsPublishedUnder : List ℕ → Journal → KeyParts → PlainRecord → Type 0
IsPublishedUnder owner m key r =
    (own : PlainRecord) × In own (records_of owner m) × (key_bytes owner m (sealing_serial own) ≡ key.bytes)
    × (spell_record own ≡ spell_record r)

-- a forged record stands in the bytes
abbrev pub HasForged : List ℕ → Journal → List ℕ → Type 0
HasForged owner m bytes = (r : PlainRecord) × IsForged owner m bytes r

-- an entry of the journal published the content
abbrev pub WasPublished : Journal → Content → Type 0
WasPublished m c = (p : Published) × In p (history m) × In c p.contents

-- an entry wrote the name for the folder
pub record WasNamed (m : Journal) (folder : ℕ) (name : List ℕ) : Type 0 where
  pub content : Content
  pub published : WasPublished m content
  pub kind : content.piece.kind ≡ 1
  pub object : content.piece.object ≡ folder
  pub named : content.piece.name ≡ name

-- an entry wrote the name and the bytes, together, for the file
pub record WasFiled (m : Journal) (file : ℕ) (name bytes : List ℕ) : Type 0 where
  pub content : Content
  pub published : WasPublished m content
  pub kind : content.piece.kind ≡ 2
  pub object : content.piece.object ≡ file
  pub named : content.piece.name ≡ name
  pub filled : content.piece.bytes ≡ bytes

-- so was the name of each folder on a way up
abbrev pub WereNamed : Journal → List FolderEntry → Type 0
WereNamed m way = (e : FolderEntry) → In e way → WasNamed m e.id e.name

-- the line is that of a folder or a file of the store, and each name in its path and the file's bytes were so written
abbrev pub IsWrittenLine : Journal → Store → Who → Line → Type 0
IsWrittenLine m s who l =
    ((e : FolderEntry) × In e s.folders × (l ≡ folder_line s who e) × WereNamed m (way_to_root s e.id))
    ⊎ ((e : FileEntry) × In e s.files × (l ≡ file_line s e) × WereNamed m (way_to_root s e.folder) × WasFiled m e.id e.name e.bytes)

-- the lines are such lines of a store whose folders, files and grants are those that the bytes make
pub record AreWrittenLines (m : Journal) (bundle : Bundle) (bytes : List ℕ) (lines : List Line) : Type 0 where
  pub reading : Reading
  pub is_read : audited bundle bytes ≡ Ok reading
  pub store : Store
  pub tree : public_of store ≡ public_of reading.stand.store
  pub each : (l : Line) → In l lines → IsWrittenLine m store (who_of bundle) l

-- what an audit shows is a name, or a file with its name, that an entry wrote for this folder or file, in whatever batch it stands now
pub record IsWrittenSeen (m : Journal) (s : PlainSeen) : Type 0 where
  pub content : Content
  pub published : WasPublished m content
  pub no_key : content.piece.kind ≢ 3
  pub shown : s ≡ seen_of_sight (sight_of s.batch content)
