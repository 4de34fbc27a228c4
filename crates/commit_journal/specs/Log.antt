-- The batches of a store file's log, or the first test that fails with its place. This project's own, docs/FORMAT.md,
-- "The file" and "Reading".
use Rattle.std.specs.Prelude.{ℕ, zero, suc, ◌+◌, ◌-◌, Bool, ◌==◌, ◌&&◌, nat_le, if◌then◌else◌, List, [], ◌∷◌, ◌++◌, length, take, drop}
use Rattle.std.specs.Prelude.{codes, slice_index, slice_range, Option, None, Some, Result, Ok, Err}
use Rattle.std.specs.Int.{w32, from_be_bytes}
use Rattle.std.specs.Str.{bytes_eq}
use Rattle.cry_base.specs.Layout.{batch_len, first_gate_offset, gate_offset, head_len, header_len, magic_len}
use Rattle.cry_base.specs.Layout.{payload_offset, slot_offset, tag_offset}
use Rattle.cry_base.specs.Limits.{most_store_bytes}
use Rattle.hmac_seal.specs.Hmac.{hmac}
use Rattle.chacha_seal.specs.Sealing.{check_of, owner_tag_key, masked}
use Rattle.record_format.specs.Plain.{PlainPayload}
use Rattle.record_format.specs.Reading.{payload_or_place}
use Rattle.commit_journal.specs.declared.head.Head.{Head}
use Rattle.commit_journal.specs.declared.past.Past.{Past}
use Rattle.commit_journal.specs.Answering.{Fault, NotAStore, WrongKey, Damaged, Tampered, and_then}
use Rattle.commit_journal.specs.Placed.{PlainBody, Commands, NewEpoch, PlainPlaced}

-- the first 13 bytes of a batch: its type, its number, its epoch, and how many bytes its payload has
unfoldable pub head_of : List ℕ → Head
head_of bytes = record {
  type_byte = slice_index bytes 0;
  number = from_be_bytes w32 (slice_range bytes 1 5);
  epoch = record { 0 = from_be_bytes w32 (slice_range bytes 5 9) };
  size = from_be_bytes w32 (slice_range bytes 9 13);
}

-- an epoch batch begins the next epoch and has no payload; a command stands in the epoch that was begun last
abbrev pub fits_epoch : Past → Head → Bool
fits_epoch past head =
    if head.type_byte == 2 then (head.size == 0) && (head.epoch.0 == past.epoch.0 + 1)
    else (head.type_byte == 1) && (nat_le 1 past.epoch.0 && (head.epoch.0 == past.epoch.0))

-- a batch with this head may stand there, where so many bytes are left. A store has at most 1,073,741,824 bytes
unfoldable pub is_batch : Past → Head → ℕ → Bool
is_batch past head left =
    nat_le (batch_len + head.size) left
    && (nat_le (past.at + (batch_len + head.size)) most_store_bytes
    && ((head.number == past.number + 1) && fits_epoch past head))

-- the parts of a whole batch whose payload has so many bytes
abbrev pub slot_in : List ℕ → List ℕ
slot_in batch = slice_range batch slot_offset payload_offset

abbrev pub payload_in : ℕ → List ℕ → List ℕ
payload_in size batch = slice_range batch payload_offset (payload_offset + size)

abbrev pub check_in : ℕ → List ℕ → List ℕ
check_in size batch = slice_range batch (payload_offset + size) (tag_offset + size)

abbrev pub tag_in : ℕ → List ℕ → List ℕ
tag_in size batch = slice_range batch (tag_offset + size) (gate_offset + size)

abbrev pub gate_in : ℕ → List ℕ → ℕ
gate_in size batch = slice_index batch (gate_offset + size)

-- the owner tag that a batch should have behind this tag
unfoldable pub tag_due : List ℕ → List ℕ → ℕ → List ℕ → List ℕ
tag_due owner previous size batch =
    hmac (owner_tag_key owner) (previous ++ (take head_len batch ++ (payload_in size batch ++ check_in size batch)))

-- a payload as a body
abbrev pub as_commands : Result PlainPayload ℕ → Result PlainBody ℕ
as_commands (Ok payload) = Ok (Commands payload)
as_commands (Err at) = Err at

-- what a batch carries, by its type and its payload
unfoldable pub body_of : Head → List ℕ → Result PlainBody ℕ
body_of head payload = if head.type_byte == 2 then Ok NewEpoch else as_commands (payload_or_place payload)

-- a body, or the place of its first bad field in the image
abbrev pub placed_body : Past → Result PlainBody ℕ → Result PlainBody Fault
placed_body past (Ok body) = Ok body
placed_body past (Err at) = Err (Damaged (past.at + payload_offset + at))

-- one batch more, and what is known behind it
pub record PlainTurn : Type 0 where
  pub placed : PlainPlaced
  pub past : Past

-- a batch with this body
abbrev pub turn_of : Past → Head → List ℕ → PlainBody → PlainTurn
turn_of past head batch body = record {
  placed = record { batch = head.number; epoch = head.epoch; place = past.at + payload_offset; body = body };
  past = record {
    at = past.at + (batch_len + head.size);
    number = head.number;
    epoch = head.epoch;
    tag = tag_in head.size batch;
    gate = gate_in head.size batch;
  };
}

-- a batch with the right owner tag. One whose slot isn't its veil key ends the log, if no open gate follows
unfoldable pub published_turn : Past → Head → List ℕ → Result (Option PlainTurn) Fault
published_turn past head batch =
    if bytes_eq (hmac (slot_in batch) (payload_in head.size batch)) (check_in head.size batch)
    then and_then (placed_body past (body_of head (masked (slot_in batch) (payload_in head.size batch))))
    (λ body. Ok (Some (turn_of past head batch body)))
    else (if gate_in head.size batch == 1 then Err (Tampered head.number (past.at + slot_offset)) else Ok None)

-- the whole of a batch behind an open gate
unfoldable pub tagged_turn : List ℕ → Past → Head → List ℕ → Result (Option PlainTurn) Fault
tagged_turn owner past head batch =
    if bytes_eq (tag_due owner past.tag head.size batch) (tag_in head.size batch)
    then published_turn past head batch
    else Err (Tampered head.number (past.at + tag_offset + head.size))

-- the head of the batch behind an open gate, where these bytes are left
unfoldable pub head_at : Past → List ℕ → Result Head Fault
head_at past rest =
    if is_batch past (head_of (take head_len rest)) (length rest) then Ok (head_of (take head_len rest)) else Err (Damaged past.at)

-- what stands behind an open gate, where these bytes are left
unfoldable pub turn_at : List ℕ → Past → List ℕ → Result (Option PlainTurn) Fault
turn_at owner past rest =
    and_then (head_at past rest) (λ head. tagged_turn owner past head (take (batch_len + head.size) rest))

-- batches read before those of the rest of the log
unfoldable pub before : List PlainPlaced → Result (List PlainPlaced) Fault → Result (List PlainPlaced) Fault
before front (Ok placed) = Ok (front ++ placed)
before front (Err fault) = Err fault

-- the log goes on behind a batch, and ends where there is none
unfoldable pub goes_on : Result (Option PlainTurn) Fault → (PlainTurn → Result (List PlainPlaced) Fault) → Result (List PlainPlaced) Fault
goes_on (Ok (Some turn)) rest = before (turn.placed ∷ []) (rest turn)
goes_on (Ok None) rest = Ok []
goes_on (Err fault) rest = Err fault

-- the batches behind a gate, by the bytes behind it, of which the first so many belong to the batch before
unfoldable pub log_at : List ℕ → Past → ℕ → List ℕ → Result (List PlainPlaced) Fault
log_at owner past skip [] = if past.gate == 1 then goes_on (turn_at owner past []) (λ _. Ok []) else Ok []
log_at owner past (suc skip) (byte ∷ rest) = log_at owner past skip rest
log_at owner past zero (byte ∷ rest) =
    if past.gate == 1
    then goes_on (turn_at owner past (byte ∷ rest)) (λ turn. log_at owner turn.past (turn.past.at - (past.at + 1)) rest)
    else Ok []

-- what is known behind a header of the right form, before the first batch
abbrev pub behind_header : List ℕ → Past
behind_header header = record {
  at = header_len;
  number = 0;
  epoch = record { 0 = 0 };
  tag = slice_range header magic_len first_gate_offset;
  gate = slice_index header first_gate_offset;
}

-- what is known behind the header's 42 bytes
unfoldable pub start_of : List ℕ → List ℕ → Result Past Fault
start_of owner header =
    if bytes_eq (take magic_len header) (codes "CRYPTREE" ++ 1 ∷ [])
    then (if bytes_eq (slice_range header magic_len first_gate_offset) (check_of owner)
    then Ok (behind_header header)
    else Err WrongKey)
    else Err NotAStore

-- what is known behind the header of an image
unfoldable pub start_at : List ℕ → List ℕ → Result Past Fault
start_at owner bytes = if nat_le header_len (length bytes) then start_of owner (take header_len bytes) else Err NotAStore

-- the batches of an image, in order, or the first test that fails
unfoldable pub log_verdict : List ℕ → List ℕ → Result (List PlainPlaced) Fault
log_verdict owner bytes = and_then (start_at owner bytes) (λ past. log_at owner past 0 (drop header_len bytes))
