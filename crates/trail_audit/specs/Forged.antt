-- Which records of a store were written by someone who had a key of it and isn't its owner. This project's own,
-- docs/FORMAT.md, "Records".
use Rattle.std.specs.Prelude.{◌≡◌, ◌≢◌, ℕ, List, []}
use Rattle.std.specs.List.{flat_map}
use Rattle.chacha_seal.specs.Keys.{KeyParts}
use Rattle.cry_base.specs.Sets.{In}
use Rattle.commit_journal.specs.Placed.{PlainBody, Commands, NewEpoch}
use Rattle.public_fold.specs.Journal.{Journal}
use Rattle.journal_bytes.specs.Bytes.{bodies_of}
use Rattle.journal_bytes.specs.Keys.{all_keys, key_bytes}
use Rattle.trail_audit.specs.Records.{PlainRecord, payload_records, records_in, sealing_serial, spell_record, IsTagged}

-- the records of what a batch carries
unfoldable pub body_records : PlainBody → List PlainRecord
body_records (Commands payload) = payload_records payload
body_records NewEpoch = []

-- the records that a journal published
unfoldable pub records_of : List ℕ → Journal → List PlainRecord
records_of owner m = flat_map body_records (bodies_of owner m)

-- the record stands in the bytes, its tag is right under a key of the journal, and its bytes are those of no record that
-- the journal sealed under that key
pub record IsForged (owner : List ℕ) (m : Journal) (bytes : List ℕ) (r : PlainRecord) : Type 0 where
  pub stands : In r (records_in bytes)
  pub key : KeyParts
  pub of_journal : In key (all_keys owner m)
  pub tagged : IsTagged key.bytes r
  pub of_no_entry : (own : PlainRecord) → In own (records_of owner m) → key_bytes owner m (sealing_serial own) ≡ key.bytes
      → spell_record own ≢ spell_record r
