-- The keys that right links lead to, as they are found. This project's own, docs/FORMAT.md, "Records".
use Rattle.std.specs.Prelude.{◌≡◌, ◌⊎◌, ◌↔◌, List, [], ◌∷◌, ◌++◌, map}
use Rattle.chacha_seal.specs.Keys.{KeyParts}
use Rattle.cry_base.specs.Sets.{In}
use Rattle.log_visits.specs.Placing.{PlacedLink}
use Rattle.log_visits.specs.declared.fault.ClientFault.{ClientFault}
use Rattle.log_visits.specs.declared.fault.ClientFault.TheVariants as faults
use Rattle.record_format.specs.declared.link.LinkRecord.{LinkRecord}
use Rattle.trail_audit.specs.Records.{ALink, IsTagged}
use Rattle.trail_audit.specs.Right.{IsRight, LeadsOn, target_of}

-- the link says that it begins at this key
abbrev pub BeginsAt : LinkRecord → KeyParts → Type 0
BeginsAt l key = (l.from_id ≡ key.id) × (l.from_serial.0 ≡ key.serial)

-- no key stands there twice
abbrev pub EachOnce : List KeyParts → Type 0
EachOnce [] = Unit {0}
EachOnce (key ∷ keys) = (In key keys → ⊥) × EachOnce keys

-- the links without their places
abbrev pub records_of_links : List PlacedLink → List LinkRecord
records_of_links links = map (λ l. l.link) links

-- each of the links that begins at the key has the right tag under it, and its target is one of the keys
abbrev pub AreFollowed : List PlacedLink → KeyParts → List KeyParts → Type 0
AreFollowed links key keys = (l : PlacedLink) → In l links → BeginsAt l.link key → IsTagged key.bytes (ALink l.link)
    × In (target_of key l.link) keys

-- the key was added, unless it stood there
abbrev pub IsKept : KeyParts → List KeyParts → List KeyParts → Type 0
IsKept key old new = (In key old × (new ≡ old)) ⊎ ((In key old → ⊥) × (new ≡ old ++ key ∷ []))

-- the links were followed from the key: behind the old keys stand new ones, each the target of a link that leads on from it
pub record IsGrown (links : List PlacedLink) (key : KeyParts) (old new : List KeyParts) : Type 0 where
  pub more : List KeyParts
  pub joined : new ≡ old ++ more
  pub targets : (k : KeyParts) → In k more → (l : PlacedLink) × In l links × LeadsOn key l.link × (k ≡ target_of key l.link)
  pub once : EachOnce old → EachOnce new
  pub followed : AreFollowed links key new

-- exactly the right keys, each once, and each link that begins at one of them has the right tag under it
pub record AreRightKeys (links : List PlacedLink) (bundle : KeyParts) (keys : List KeyParts) : Type 0 where
  pub right : (key : KeyParts) → In key keys ↔ IsRight (records_of_links links) bundle key
  pub once : EachOnce keys
  pub tagged : (key : KeyParts) → In key keys → (l : PlacedLink) → In l links → BeginsAt l.link key → IsTagged key.bytes (ALink l.link)

-- the fault is that of a link that begins at the key and has a wrong tag under it. Memory may always be wanting
abbrev pub TagFault : List PlacedLink → KeyParts → ClientFault → Type 0
TagFault links key (faults.Tampered batch at) =
    (l : PlacedLink) × In l links × (l.batch ≡ batch) × (l.at ≡ at) × BeginsAt l.link key × (IsTagged key.bytes (ALink l.link) → ⊥)
TagFault links key faults.OutOfMemory = Unit {0}
TagFault links key fault = ⊥

-- the fault is that of a link with a wrong tag under a right key
abbrev pub LinkFault : List PlacedLink → KeyParts → ClientFault → Type 0
LinkFault links bundle (faults.Tampered batch at) =
    (key : KeyParts) × IsRight (records_of_links links) bundle key × TagFault links key (faults.Tampered batch at)
LinkFault links bundle faults.OutOfMemory = Unit {0}
LinkFault links bundle fault = ⊥
