-- The batches of a log as who reads it reads them, batch by batch: the owner, or anybody without a key. This project's own,
-- docs/FORMAT.md, "Reading".
use Rattle.std.specs.Prelude.{ℕ, ◌+◌, Bool, true, nat_le, if◌then◌else◌, List, [], ◌∷◌, ◌++◌, length, take, drop, codes}
use Rattle.std.specs.Prelude.{slice_range, Option, None, Some, Result, Ok, Err}
use Rattle.std.specs.Str.{bytes_eq}
use Rattle.cry_base.specs.Layout.{first_gate_offset, header_len, magic_len, slot_offset, tag_offset}
use Rattle.chacha_seal.specs.Keys.{KeyParts}
use Rattle.hmac_seal.specs.Hmac.{hmac}
use Rattle.chacha_seal.specs.Sealing.{check_of, masked}
use Rattle.commit_journal.specs.declared.head.Head.{Head}
use Rattle.commit_journal.specs.declared.past.Past.{Past}
use Rattle.commit_journal.specs.Answering.{Fault, NotAStore, WrongKey, Tampered, and_then}
use Rattle.commit_journal.specs.Log.{PlainTurn, behind_header, body_of, check_in, payload_in, placed_body, slot_in}
use Rattle.commit_journal.specs.Log.{tag_due, tag_in, turn_of}
use Rattle.commit_journal.specs.Log.{published_turn}
use Rattle.commit_journal.specs.Logs.{walk_at, turn_by}
use Rattle.commit_journal.specs.Placed.{PlainPlaced}

-- who reads: the bytes of the owner's key, or none
abbrev pub key_bytes : Option KeyParts → Option (List ℕ)
key_bytes None = None
key_bytes (Some key) = Some key.bytes

-- who has the owner's key tests the owner check
unfoldable pub has_check : Option (List ℕ) → List ℕ → Bool
has_check None check = true
has_check (Some owner) check = bytes_eq check (check_of owner)

-- what is known behind the header's 42 bytes
unfoldable pub header_of : Option (List ℕ) → List ℕ → Result Past Fault
header_of who header =
    if bytes_eq (take magic_len header) (codes "CRYPTREE" ++ 1 ∷ [])
    then (if has_check who (slice_range header magic_len first_gate_offset)
    then Ok (behind_header header)
    else Err WrongKey)
    else Err NotAStore

unfoldable pub header_at : Option (List ℕ) → List ℕ → Result Past Fault
header_at who bytes = if nat_le header_len (length bytes) then header_of who (take header_len bytes) else Err NotAStore

-- who has the owner's key tests the owner tag
unfoldable pub has_tag : Option (List ℕ) → Past → Head → List ℕ → Bool
has_tag None past head batch = true
has_tag (Some owner) past head batch = bytes_eq (tag_due owner past.tag head.size batch) (tag_in head.size batch)

-- the whole of a batch behind an open gate
unfoldable pub read_turn : Option (List ℕ) → Past → Head → List ℕ → Result (Option PlainTurn) Fault
read_turn who past head batch =
    if has_tag who past head batch then published_turn past head batch else Err (Tampered head.number (past.at + tag_offset + head.size))

-- whether the slot of a batch is its veil key
unfoldable pub is_published : ℕ → List ℕ → Bool
is_published size batch = bytes_eq (hmac (slot_in batch) (payload_in size batch)) (check_in size batch)

-- a batch unmasked with a veil key
unfoldable pub unmasked_turn : List ℕ → Past → Head → List ℕ → Result PlainTurn Fault
unmasked_turn veil past head batch =
    and_then (placed_body past (body_of head (masked veil (payload_in head.size batch)))) (λ body. Ok (turn_of past head batch body))

-- a batch that was read before: one that isn't published was changed, whatever gate follows
unfoldable pub again_turn : Option (List ℕ) → Past → Head → List ℕ → Result PlainTurn Fault
again_turn who past head batch =
    if has_tag who past head batch
    then (if is_published head.size batch
    then unmasked_turn (slot_in batch) past head batch
    else Err (Tampered head.number (past.at + slot_offset)))
    else Err (Tampered head.number (past.at + tag_offset + head.size))

-- the batches, in order, or the first test that fails
unfoldable pub read_log : Option (List ℕ) → List ℕ → Result (List PlainPlaced) Fault
read_log who bytes = and_then (header_at who bytes) (λ past. walk_at (turn_by (read_turn who)) past 0 (drop header_len bytes))
