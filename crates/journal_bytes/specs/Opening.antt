-- What the last contents of a journal's log hold, which keys are opened, and what visits show. This project's own,
-- docs/FORMAT.md, "Reading".
use Rattle.std.specs.Prelude.{◌≡◌, ℕ, Bool, false, cond, ◌==◌, List, [], ◌∷◌, ◌++◌, map, Some}
use Rattle.std.specs.List.{list_any}
use Rattle.chacha_seal.specs.Keys.{KeyParts}
use Rattle.commit_journal.specs.Placed.{PlainPlaced}
use Rattle.cry_base.specs.Sets.{In}
use Rattle.cry_base.specs.Store.{Store, FolderEntry, FileEntry, HolderEntry}
use Rattle.cry_base.specs.declared.roles.Role.{Role}
use Rattle.cry_base.specs.declared.roles.Role.TheVariants.{Owner}
use Rattle.log_visits.specs.Found.{is_of}
use Rattle.log_visits.specs.Placing.{PlacedContent, last_one, log_contents}
use Rattle.log_visits.specs.Visiting.{Opened, Reading, key_of}
use Rattle.log_visits.specs.Visits.{Visit, all_visits, writing_visits}
use Rattle.log_visits.specs.Visits.Visit.{ToKey, ToName, ToFile, ToHolder}
use Rattle.key_links.specs.Sealed.{sealed_content}
use Rattle.move_plan.specs.Fitting.{public_of}
use Rattle.public_fold.specs.Journal.{Journal}
use Rattle.public_fold.specs.KeyStep.{KeyState, newest}
use Rattle.role_graph.specs.Rights.Who.{TheOwner}
use Rattle.role_graph.specs.Roles.{data_of, file_role, role_id}
use Rattle.journal_bytes.specs.Folds.{log_of, public_stand}
use Rattle.journal_bytes.specs.Keys.{bytes_in}
use Rattle.journal_bytes.specs.Texting.{file_text}

-- the key of a role with a serial, with the bytes that were drawn for it
abbrev pub key_with : List KeyParts → Role → ℕ → KeyParts
key_with keys role serial = record { id = role_id role; serial = serial; bytes = bytes_in keys serial }

-- the last content of the kind for the object is this text, sealed under the present key of the role
pub record IsLast (keys : List KeyParts) (k : KeyState) (contents : List PlacedContent) (role : Role) (kind object : ℕ) (text : List ℕ) :
    Type 0 where
  pub placed : PlacedContent
  pub is_last : last_one (is_of kind object) contents ≡ Some placed
  pub serial : ℕ
  pub is_present : newest k.keys role ≡ Some serial
  pub nonce : ℕ
  pub is_sealed : placed.content ≡ sealed_content kind (key_with keys role serial) object nonce text

-- each folder's name, each file's name and bytes, and each holder's key as they stand
pub record AreLast (keys : List KeyParts) (s : Store) (k : KeyState) (contents : List PlacedContent) : Type 0 where
  pub folders : (e : FolderEntry) → In e s.folders → IsLast keys k contents (data_of e.id) 1 e.id e.name
  pub files : (e : FileEntry) → In e s.files → IsLast keys k contents (file_role e.id) 2 e.id (file_text e.name e.bytes)
  pub holders : (e : HolderEntry) → In e s.holders → IsLast keys k contents Owner 3 e.number e.key

-- so for the contents of a log
abbrev pub HoldsPresent : List KeyParts → Store → KeyState → List PlainPlaced → Type 0
HoldsPresent keys s k log = AreLast keys s k (log_contents log)

-- a journal's log with what its payloads make, and what is open of it before the owner's first visit
abbrev pub reading_of : List ℕ → Journal → Reading
reading_of owner m = record { log = log_of owner m; stand = public_stand m }

abbrev pub owner_starts : List ℕ → Journal → Opened
owner_starts owner m = record { keys = (Owner, owner) ∷ []; store = (public_stand m).store }

-- each key that is open is the present one of its role: the bytes that were drawn for its serial
abbrev pub AreDrawn : List KeyParts → KeyState → List (Role × List ℕ) → Type 0
AreDrawn keys k opened = (role : Role) (bytes : List ℕ) → key_of opened role ≡ Some bytes → (n : ℕ) × (newest k.keys role ≡ Some n)
    × (bytes ≡ bytes_in keys n)

-- the owner visits everything, each holder's key, and the Clearance of each file with a grant
abbrev pub owner_visits : Journal → List Visit
owner_visits m = all_visits (public_stand m).store TheOwner ++ writing_visits (public_stand m).store

-- whether a visit is to the name of this folder, to this file, to the key of this holder
unfoldable pub is_to_name : ℕ → Visit → Bool
is_to_name f (ToKey e) = false
is_to_name f (ToName g) = g == f
is_to_name f (ToFile x) = false
is_to_name f (ToHolder h) = false

unfoldable pub is_to_file : ℕ → Visit → Bool
is_to_file x (ToKey e) = false
is_to_file x (ToName f) = false
is_to_file x (ToFile y) = y == x
is_to_file x (ToHolder h) = false

unfoldable pub is_to_holder : ℕ → Visit → Bool
is_to_holder h (ToKey e) = false
is_to_holder h (ToName f) = false
is_to_holder h (ToFile x) = false
is_to_holder h (ToHolder k) = k == h

-- what visits show of a store: what everyone may see, with the names, files and holders' keys that they are to
unfoldable pub seen_by : List Visit → Store → Store
seen_by visits s = record (public_of s) {
  folders = map (λ (e : FolderEntry). cond (list_any (is_to_name e.id) visits) e (record e { name = [] })) s.folders;
  files = map (λ (e : FileEntry). cond (list_any (is_to_file e.id) visits) e (record e { name = []; bytes = [] })) s.files;
  holders = map (λ (e : HolderEntry). cond (list_any (is_to_holder e.number) visits) e (record e { key = [] })) s.holders;
}
