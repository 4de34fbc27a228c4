-- The bytes of a journal's keys, by serial. This project's own, docs/FORMAT.md, "Serials".
use Rattle.std.specs.Prelude.{◌≡◌, ℕ, ◌==◌, List, [], ◌∷◌, ◌++◌, length, find, Option, Some, None, All}
use Rattle.chacha_seal.specs.Keys.{KeyParts}
use Rattle.cry_base.specs.declared.roles.Role.{Role}
use Rattle.role_graph.specs.Roles.{role_id}
use Rattle.public_fold.specs.Journal.{Entry, Journal, Stand, nothing, entry_step, stand_then}
use Rattle.public_fold.specs.Journal.Entry.{Session, Made, Did, Upgraded}

-- the keys that an entry drew
unfoldable pub drawn_by : Entry → List (List ℕ)
drawn_by Session = []
drawn_by (Made version keys) = keys
drawn_by (Did request keys) = keys
drawn_by (Upgraded keys) = keys

-- the roles and serials that were given, each with the next key of those drawn
unfoldable pub with_bytes : List (Role × ℕ) → List (List ℕ) → List KeyParts
with_bytes [] keys = []
with_bytes (key ∷ given) [] = []
with_bytes (key ∷ given) (bytes ∷ keys) = record { id = role_id key.0; serial = key.1; bytes = bytes } ∷ with_bytes given keys

-- the keys of an entry
unfoldable pub entry_keys : Stand → Entry → List KeyParts
entry_keys at entry = with_bytes (entry_step at entry).given (drawn_by entry)

-- the owner's key has serial 0
unfoldable pub owner_parts : List ℕ → KeyParts
owner_parts owner = record { id = 0; serial = 0; bytes = owner }

-- all keys of some entries, in the order of their serials
unfoldable pub keys_from : Stand → List Entry → List KeyParts
keys_from at [] = []
keys_from at (entry ∷ entries) = entry_keys at entry ++ keys_from (stand_then at entry) entries

-- all keys that there ever were in a journal, the owner's first
unfoldable pub all_keys : List ℕ → Journal → List KeyParts
all_keys owner m = owner_parts owner ∷ keys_from nothing m

-- the bytes of the key with a serial, and none where no key has it
unfoldable pub bytes_of : Option KeyParts → List ℕ
bytes_of None = []
bytes_of (Some key) = key.bytes

unfoldable pub bytes_in : List KeyParts → ℕ → List ℕ
bytes_in keys serial = bytes_of (find (λ key. key.serial == serial) keys)

unfoldable pub key_bytes : List ℕ → Journal → ℕ → List ℕ
key_bytes owner m serial = bytes_in (all_keys owner m) serial

-- the owner's key and each key that was drawn have 32 bytes
pub record AreWhole (owner : List ℕ) (m : Journal) : Type 0 where
  pub owner_size : length owner ≡ 32
  pub drawn_sizes : All (λ (entry : Entry). All (λ (key : List ℕ). length key ≡ 32) (drawn_by entry)) m
