-- What an audit may answer. This project's own, docs/FORMAT.md, "Reading" and "What a reader opens".
use Rattle.std.specs.Prelude.{◌≡◌, ◌⊎◌, ℕ, Bool, true, false, ◌==◌, cond, List, map, Ok, Err}
use Rattle.chacha_seal.specs.Keys.{KeyParts}
use Rattle.chacha_seal.specs.Sealing.{sealed}
use Rattle.cry_base.specs.Sets.{In}
use Rattle.cry_base.specs.declared.client.Bundle.{Bundle}
use Rattle.cry_base.specs.declared.client.Bundle.TheVariants as bundles
use Rattle.commit_journal.specs.Answering.{Tampered, Damaged}
use Rattle.record_format.specs.declared.link.LinkRecord.{LinkRecord}
use Rattle.record_format.specs.Plain.{PlainContent}
use Rattle.role_graph.specs.Roles.{holder_role}
use Rattle.public_fold.specs.KeyStep.{present}
use Rattle.log_visits.specs.Asking.{audited}
use Rattle.log_visits.specs.Judging.{Failure, OfBytes}
use Rattle.log_visits.specs.Placing.{PlacedLink, PlacedContent, log_links, log_contents}
use Rattle.log_visits.specs.Visiting.{Reading, is_folder_text, is_file_text}
use Rattle.trail_audit.specs.Records.{ALink, AContent, IsTagged}
use Rattle.trail_audit.specs.Right.{IsRight}

-- the key of a bundle, with its number and its serial: the owner's has serial 0, a holder's that of its role
unfoldable pub bundle_key : Bundle → Reading → KeyParts
bundle_key (bundles.Owner key) r = record { id = 0; serial = 0; bytes = key }
bundle_key (bundles.Holder h key) r = record { id = h.0; serial = present r.stand.keys.keys (holder_role h.0); bytes = key }

-- the number of the role that seals a content: a holder's key is sealed under the owner's
unfoldable pub sealing_id : PlainContent → ℕ
sealing_id c = cond (c.kind == 3) 0 c.object

-- the links of a log
unfoldable pub links_read : Reading → List LinkRecord
links_read r = map (λ l. l.link) (log_links r.log)

-- a right key that a link, that a content names as the one it is sealed under
pub record SourceOf (r : Reading) (bundle : Bundle) (l : LinkRecord) : Type 0 where
  pub key : KeyParts
  pub right : IsRight (links_read r) (bundle_key bundle r) key
  pub id : l.from_id ≡ key.id
  pub serial : l.from_serial.0 ≡ key.serial

pub record SealOf (r : Reading) (bundle : Bundle) (c : PlainContent) : Type 0 where
  pub key : KeyParts
  pub right : IsRight (links_read r) (bundle_key bundle r) key
  pub id : sealing_id c ≡ key.id
  pub serial : c.key_serial.0 ≡ key.serial

-- whether a text has the form of its kind: a name, or a file. A holder's key leads nowhere
unfoldable pub is_text : PlainContent → List ℕ → Bool
is_text c text = cond (c.kind == 1) (is_folder_text c.object text) (cond (c.kind == 2) (is_file_text text) true)

-- the faults of records that an audit may tell: a wrong tag under a right key that the record names, or a text under a right tag
-- that isn't of its form
pub data RecordFault (r : Reading) (bundle : Bundle) : Failure → Type 0 where
  WrongLink : (l : PlacedLink) → In l (log_links r.log) → (source : SourceOf r bundle l.link)
      → (IsTagged source.key.bytes (ALink l.link) → ⊥) →
      RecordFault r bundle (OfBytes (Tampered l.batch l.at))
  WrongContent : (c : PlacedContent) → In c (log_contents r.log) → (seal : SealOf r bundle c.content)
      → (IsTagged seal.key.bytes (AContent c.content) → ⊥) →
      RecordFault r bundle (OfBytes (Tampered c.batch c.at))
  WrongText : (c : PlacedContent) → In c (log_contents r.log) → (seal : SealOf r bundle c.content)
      → IsTagged seal.key.bytes (AContent c.content) →
      is_text c.content (sealed seal.key.bytes c.content.nonce c.content.cipher) ≡ false → RecordFault r bundle (OfBytes (Damaged c.at))

-- an audit may fail so: as its reading fails, and where that passes, with the fault of any bad record
abbrev pub MayFail : Bundle → List ℕ → Failure → Type 0
MayFail bundle bytes failure =
    (audited bundle bytes ≡ Err failure) ⊎ ((r : Reading) × (audited bundle bytes ≡ Ok r) × RecordFault r bundle failure)

-- it may pass: its reading does, and no record is bad
abbrev pub MayPass : Bundle → List ℕ → Type 0
MayPass bundle bytes = (r : Reading) × (audited bundle bytes ≡ Ok r) × ((failure : Failure) → RecordFault r bundle failure → ⊥)
