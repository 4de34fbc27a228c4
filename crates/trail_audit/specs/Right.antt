-- Which keys a reader may open of a store's links. This project's own, docs/FORMAT.md, "Records".
use Rattle.std.specs.Prelude.{◌≡◌, List}
use Rattle.chacha_seal.specs.Keys.{KeyParts}
use Rattle.chacha_seal.specs.Sealing.{sealed}
use Rattle.cry_base.specs.Sets.{In}
use Rattle.record_format.specs.declared.link.LinkRecord.{LinkRecord}
use Rattle.trail_audit.specs.Records.{ALink, IsTagged}

-- the link begins at this key, by its number and its serial, and has the right tag under it
pub record LeadsOn (key : KeyParts) (l : LinkRecord) : Type 0 where
  pub from_id : l.from_id ≡ key.id
  pub from_serial : l.from_serial.0 ≡ key.serial
  pub tagged : IsTagged key.bytes (ALink l)

-- the key that a link holds for who has its source
abbrev pub target_of : KeyParts → LinkRecord → KeyParts
target_of key l = record { id = l.to_id; serial = l.to_serial.0; bytes = sealed key.bytes l.nonce l.cipher }

-- the right keys: the bundle's, and with a key the target of each link that leads on from it. There are no others
pub data IsRight (links : List LinkRecord) (bundle : KeyParts) : KeyParts → Type 0 where
  OfBundle : IsRight links bundle bundle
  Behind : {key : KeyParts} → (l : LinkRecord) → IsRight links bundle key → In l links → LeadsOn key l
      → IsRight links bundle (target_of key l)
