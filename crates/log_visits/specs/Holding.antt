-- What a client's ring holds of the keys that were opened. This project's own, docs/FORMAT.md, "Reading".
use Rattle.std.specs.Prelude.{◌≡◌, ◌≢◌, ◌==◌, ℕ, ◌≤◌, Bool, cond, IsTrue, List, map, Some, Result, Ok, Err, option_map, length, ◌∷◌, ◌++◌}
use Rattle.chacha_seal.specs.Keys.{KeyParts}
use Rattle.commit_journal.specs.Placed.{PlainPlaced, plain_placed}
use Rattle.commit_journal.specs.declared.placed.Placed.{Placed}
use Rattle.cry_base.specs.Limits.{most_file_bytes}
use Rattle.cry_base.specs.Naming.{is_name}
use Rattle.cry_base.specs.Stepping.{with_file}
use Rattle.cry_base.specs.Store.{Store, HolderEntry}
use Rattle.cry_base.specs.declared.roles.Edge.{Edge}
use Rattle.cry_base.specs.declared.roles.Role.{Role}
use Rattle.cry_base.specs.declared.roles.Role.TheVariants.{Holder}
use Rattle.commit_journal.specs.Answering.{Fault}
use Rattle.folder_nodes.specs.Titles.{Titles, bytes_in, title_at, tree_store}
use Rattle.log_visits.specs.Answering.{IsFault}
use Rattle.log_visits.specs.declared.fault.ClientFault.{ClientFault}
use Rattle.log_visits.specs.declared.texts.NamedBytes.{NamedBytes}
use Rattle.log_visits.specs.declared.visiting.OpenedText.{OpenedText}
use Rattle.log_visits.specs.Folding.{folded}
use Rattle.log_visits.specs.Visiting.{Reading}
use Rattle.log_visits.specs.Visiting as opened
use Rattle.key_links.specs.Ended.{kind_from, kind_to, role_with}
use Rattle.key_links.specs.Ringed.{Ringed, key_of}
use Rattle.public_fold.specs.Journal.{nothing}
use Rattle.public_fold.specs.KeyStep.{present}
use Rattle.public_fold.specs.Standing.{PublicView, IsSeenAs}
use Rattle.role_graph.specs.Roles.{role_id}

-- a reading of these batches, which all fit, and what everyone may see behind them
abbrev pub IsReadingIn : PublicView → List PlainPlaced → Reading → Type 0
IsReadingIn state log r = (r.log ≡ log) × IsSeenAs state r.stand × (folded nothing log ≡ Ok r.stand)

-- the same of a log
abbrev pub IsReadingOf : PublicView → List Placed → Reading → Type 0
IsReadingOf state log r = IsReadingIn state (map plain_placed log) r

-- the key has its role's number and its present serial
abbrev pub IsPresent : List (Role × ℕ) → Role → KeyParts → Type 0
IsPresent keys role key = (key.id ≡ role_id role) × (key.serial ≡ present keys role)

-- each key of the ring is the present one of its role
abbrev pub ArePresent : List (Role × ℕ) → Ringed → Type 0
ArePresent keys ring = (role : Role) (key : KeyParts) → key_of ring role ≡ Some key → IsPresent keys role key

-- of the roles that are told the ring has the keys that were opened, and no others
abbrev pub HoldsKeys : (Role → Bool) → Ringed → List (Role × List ℕ) → Type 0
HoldsKeys told ring keys = (role : Role) → IsTrue (told role) → opened.key_of keys role ≡ option_map (λ k. k.bytes) (key_of ring role)

-- the edge is of one of the eleven kinds, which is that of its roles
pub record HasKind (e : Edge) : Type 0 where
  pub from_one : 1 ≤ e.kind
  pub to_eleven : e.kind ≤ 11
  pub source : role_with (kind_from e.kind) (role_id e.from) ≡ e.from
  pub target : role_with (kind_to e.kind) (role_id e.to) ≡ e.to

-- a visit of a text goes on with the text that was opened and the place of its content, or ends with this fault
abbrev pub GoesOn : Result OpenedText ClientFault → ((ℕ → List ℕ → Result opened.Opened Fault) → Result opened.Opened Fault)
    → (ℕ → List ℕ → Result opened.Opened Fault) → Type 0
GoesOn (Ok t) visited go_on = visited go_on ≡ go_on t.at t.text.items
GoesOn (Err fault) visited go_on = IsFault fault (visited go_on)

-- the store is the one without names, with these names and bytes; of the holders' keys it says nothing
abbrev pub HasNames : Store → Titles → Store → Type 0
HasNames bare names s = s ≡ record (tree_store bare names) { holders = s.holders }

-- a visit of a name or of bytes left the keys and the holders as they were, and these names and bytes
abbrev pub IsTitledBy : Store → Titles → opened.Opened → opened.Opened → Type 0
IsTitledBy bare names o behind = (behind.keys ≡ o.keys) × (behind.store.holders ≡ o.store.holders) × HasNames bare names behind.store

-- a visit of a file's text left the keys as they were, and the file's entry with this name and these bytes
abbrev pub IsFiledBy : ℕ → NamedBytes → opened.Opened → opened.Opened → Type 0
IsFiledBy x parts o behind = behind ≡ record o
    { store = with_file o.store x (λ e. record e { name = parts.name.items; bytes = parts.bytes.items }) }

-- visits left the store with this name and these bytes for the file, whatever keys they opened
abbrev pub IsFiled : ℕ → List ℕ → List ℕ → opened.Opened → opened.Opened → Type 0
IsFiled x name bytes o behind = behind.store ≡ with_file o.store x (λ e. record e { name = name; bytes = bytes })

-- a visit of a holder's key left the store with that key, and the ring has it for the holder
pub record IsHeldBy (new old : Ringed) (h : ℕ) (o behind : opened.Opened) : Type 0 where
  pub key : List ℕ
  pub stored : behind ≡ record o {
    store = record o.store
        { holders = map (λ (e : HolderEntry). cond (e.number == h) (record e { key = key }) e) o.store.holders };
  }
  pub ringed : option_map (λ k. k.bytes) (key_of new (Holder (record { 0 = h }))) ≡ Some key
  pub others : (role : Role) → role ≢ Holder (record { 0 = h }) → key_of new role ≡ key_of old role

-- the text is a byte with the name's length, the name, and the bytes of a file
abbrev pub HasParts : List ℕ → List ℕ → List ℕ → Type 0
HasParts text name bytes = IsTrue (opened.is_file_text text) × (text ≡ length name ∷ (name ++ bytes)) × IsTrue (is_name name)

-- no file has more bytes than a file of any store may have
abbrev pub AreSized : Titles → Type 0
AreSized names = (x : ℕ) → length (bytes_in (title_at names.files x)) ≤ most_file_bytes
