-- What an audit gives: the names and files that a bundle's key leads to. This project's own, docs/FORMAT.md, "Records", and
-- docs/PROGRAM.md, "What is printed".
use Rattle.std.specs.Prelude.{◌≡◌, ◌⊎◌, ℕ, Bool, true, false, ◌&&◌, ◌==◌, cond, IsTrue, List, [], ◌∷◌, ◌++◌, filter, map, take, drop}
use Rattle.std.specs.Prelude.{Result, Ok, Err}
use Rattle.std.specs.List.{flat_map}
use Rattle.chacha_seal.specs.Keys.{KeyParts}
use Rattle.chacha_seal.specs.Sealing.{sealed}
use Rattle.closure_laws.specs.Seen.{Sight}
use Rattle.commit_journal.specs.Answering.{NotAStore, WrongKey, Damaged, Tampered}
use Rattle.commit_journal.specs.Placed.{PlainPlaced}
use Rattle.cry_base.specs.Listed.{Listed}
use Rattle.cry_base.specs.Sets.{In}
use Rattle.cry_base.specs.declared.client.Bundle.{Bundle}
use Rattle.cry_base.specs.declared.roles.Node.{Node}
use Rattle.cry_base.specs.declared.roles.Node.TheVariants.{Folder, File}
use Rattle.log_visits.specs.Asking.{audited}
use Rattle.log_visits.specs.Judging.{Failure, OfBytes, NoHolder, Unseen}
use Rattle.log_visits.specs.Placing.{PlacedContent, log_links, log_contents}
use Rattle.log_visits.specs.Visiting.{Reading}
use Rattle.log_visits.specs.declared.fault.ClientFault.{ClientFault}
use Rattle.log_visits.specs.declared.fault.ClientFault.TheVariants as faults
use Rattle.record_format.specs.Plain.{PlainContent}
use Rattle.trail_audit.specs.Auditing.{MayFail, RecordFault, bundle_key, is_text, sealing_id}
use Rattle.trail_audit.specs.Records.{AContent, IsTagged}
use Rattle.trail_audit.specs.Trails.{AreRightKeys}
use Rattle.trail_audit.specs.declared.trails.KnownKeys.{KnownKeys}
use Rattle.cry_base.specs.declared.client.Seen.{Seen}

-- a name, or a file's name and bytes, without the room beside the bytes
pub record PlainSeen : Type 0 where
  pub batch : ℕ
  pub node : Node
  pub name : List ℕ
  pub bytes : List ℕ

abbrev pub plain_seen : Seen → PlainSeen
plain_seen s = record { batch = s.batch; node = s.node; name = s.name.items; bytes = s.bytes.items }

-- the content says that it is sealed under this key
unfoldable pub is_sealed_by : PlainContent → KeyParts → Bool
is_sealed_by c key = (sealing_id c == key.id) && (c.key_serial.0 == key.serial)

-- a content opened with a key
unfoldable pub text_with : PlainContent → KeyParts → List ℕ
text_with c key = sealed key.bytes c.nonce c.cipher

-- what a text shows: of kind 1 a folder's name, of kind 2 a file's name, behind the byte that is its length, and bytes. A holder's
-- key isn't shown
unfoldable pub file_shown : ℕ → ℕ → List ℕ → List PlainSeen
file_shown batch x [] = []
file_shown batch x (n ∷ rest) = record { batch = batch; node = File (record { 0 = x }); name = take n rest; bytes = drop n rest } ∷ []

unfoldable pub text_shown : ℕ → PlainContent → List ℕ → List PlainSeen
text_shown batch c text =
    cond (c.kind == 1) (record { batch = batch; node = Folder (record { 0 = c.object }); name = text; bytes = [] } ∷ [])
    (cond (c.kind == 2) (file_shown batch c.object text) [])

unfoldable pub shown_by : PlacedContent → KeyParts → List PlainSeen
shown_by c key = text_shown c.batch c.content (text_with c.content key)

-- a content opened with each of the keys that it says it is sealed under
unfoldable pub content_shown : List KeyParts → PlacedContent → List PlainSeen
content_shown keys c = flat_map (shown_by c) (filter (is_sealed_by c.content) keys)

-- all that keys show of contents, in the order of the contents
unfoldable pub audit_of : List KeyParts → List PlacedContent → List PlainSeen
audit_of keys contents = flat_map (content_shown keys) contents

-- the answer is what the right keys show of the contents of a log, in the order of its batches
pub record IsAudit (r : Reading) (bundle : Bundle) (answer : List PlainSeen) : Type 0 where
  pub keys : List KeyParts
  pub right : AreRightKeys (log_links r.log) (bundle_key bundle r) keys
  pub seen : answer ≡ audit_of keys (log_contents r.log)

-- the fault is a failure of which this holds. A disk that fails and want of memory may come at any time
abbrev pub IsToldOf : (Failure → Type 0) → ClientFault → Type 0
IsToldOf P faults.NotAStore = P (OfBytes NotAStore)
IsToldOf P faults.WrongKey = P (OfBytes WrongKey)
IsToldOf P (faults.Damaged at) = P (OfBytes (Damaged at))
IsToldOf P (faults.Tampered batch at) = P (OfBytes (Tampered batch at))
IsToldOf P (faults.NoHolder known) = P (NoHolder known)
IsToldOf P faults.Unseen = P Unseen
IsToldOf P faults.DiskFault = Unit {0}
IsToldOf P faults.OutOfMemory = Unit {0}

-- what was read was opened with all right keys: no record is bad, and this is what they show
pub record Passes (r : Reading) (bundle : Bundle) (answer : List PlainSeen) : Type 0 where
  pub none_bad : (failure : Failure) → RecordFault r bundle failure → ⊥
  pub audit : IsAudit r bundle answer

-- an audit of a store's bytes may answer so: with a failure as `MayFail` says, or with all that the right keys show, where no record
-- is bad
abbrev pub MayAnswer : Bundle → List ℕ → Result (Listed Seen) ClientFault → Type 0
MayAnswer bundle bytes (Ok answer) = (r : Reading) × (audited bundle bytes ≡ Ok r) × Passes r bundle (map plain_seen answer.items)
MayAnswer bundle bytes (Err fault) = IsToldOf (MayFail bundle bytes) fault

-- the same of a log that was read so
abbrev pub AnswersAudit : Result Reading Failure → Bundle → Result (Listed Seen) ClientFault → Type 0
AnswersAudit read bundle (Ok answer) = (r : Reading) × (read ≡ Ok r) × Passes r bundle (map plain_seen answer.items)
AnswersAudit read bundle (Err fault) = IsToldOf (λ failure. (read ≡ Err failure)
    ⊎ ((r : Reading) × (read ≡ Ok r) × RecordFault r bundle failure)) fault

-- the same of a log that was read so, as far as the right keys: they were found, or the fault is that of the reading or of a link
abbrev pub AnswersKeys : Result Reading Failure → Bundle → List PlainPlaced → Result KnownKeys ClientFault → Type 0
AnswersKeys read bundle log (Ok known) = (r : Reading) × (read ≡ Ok r) × (r.log ≡ log)
    × AreRightKeys (log_links r.log) (bundle_key bundle r) known.keys.items
AnswersKeys read bundle log (Err fault) = AnswersAudit read bundle (Err fault)

-- a name or a file of a history, as an audit gives it
unfoldable pub seen_of_sight : Sight → PlainSeen
seen_of_sight s = record {
  batch = s.batch;
  node = cond (s.piece.kind == 1) (Folder (record { 0 = s.piece.object })) (File (record { 0 = s.piece.object }));
  name = s.piece.name;
  bytes = cond (s.piece.kind == 1) [] s.piece.bytes;
}

-- ---- contents, as they are opened

-- the fault is that of a content that says that it is sealed under one of the keys: a wrong tag under it, or a text under a right tag
-- that isn't of its form. Memory may always be wanting
abbrev pub ContentFault : List PlacedContent → List KeyParts → ClientFault → Type 0
ContentFault contents keys (faults.Tampered batch at) =
    (c : PlacedContent) × In c contents × (c.batch ≡ batch) × (c.at ≡ at)
    × ((key : KeyParts) × In key keys × IsTrue (is_sealed_by c.content key) × (IsTagged key.bytes (AContent c.content) → ⊥))
ContentFault contents keys (faults.Damaged at) =
    (c : PlacedContent) × In c contents × (c.at ≡ at)
    × ((key : KeyParts) × In key keys × IsTrue (is_sealed_by c.content key) × IsTagged key.bytes (AContent c.content)
    × (is_text c.content (text_with c.content key) ≡ false))
ContentFault contents keys faults.OutOfMemory = Unit {0}
ContentFault contents keys fault = ⊥

-- the fault is that of a text that isn't of its content's form. Memory may always be wanting
abbrev pub FormFault : PlacedContent → List ℕ → ClientFault → Type 0
FormFault c text (faults.Damaged at) = (at ≡ c.at) × (is_text c.content text ≡ false)
FormFault c text faults.OutOfMemory = Unit {0}
FormFault c text fault = ⊥

-- the tag is right under the key, and the text is of its form
pub record IsOpenedBy (c : PlainContent) (key : KeyParts) : Type 0 where
  pub tagged : IsTagged key.bytes (AContent c)
  pub form : is_text c (text_with c key) ≡ true

-- each of the keys that the content says it is sealed under opens it
abbrev pub IsOpened : List KeyParts → PlacedContent → Type 0
IsOpened keys c = (key : KeyParts) → In key keys → IsTrue (is_sealed_by c.content key) → IsOpenedBy c.content key

-- contents were opened with all keys that they say they are sealed under, and what they show was added, in their order
pub record AreSeen (keys : List KeyParts) (contents : List PlacedContent) (old new : List PlainSeen) : Type 0 where
  pub opened : (c : PlacedContent) → In c contents → IsOpened keys c
  pub shown : new ≡ old ++ audit_of keys contents

-- the fault is that of a content, or of a disk from which its batch was read once more
abbrev pub RereadFault : List PlacedContent → List KeyParts → ClientFault → Type 0
RereadFault contents keys fault = (fault ≡ faults.DiskFault) ⊎ ContentFault contents keys fault
