-- What the owner's key reads of a store that is opened for writing, and the slots that are then filled. This project's own,
-- docs/FORMAT.md, "Opening for writing".
use Rattle.std.specs.Prelude.{◌≡◌, ◌≢◌, ◌⊎◌, ◌≤◌, ℕ, zero, suc, ◌+◌, ◌-◌, ◌*◌, true, false, ◌==◌, nat_le, if◌then◌else◌, List, [], ◌∷◌}
use Rattle.std.specs.Prelude.{◌++◌, length, take, drop, slice_range, Option, None, Some, Result, Ok, Err}
pub use Rattle.batch_log.specs.Steps.{IsGatedAt, written_at}
use Rattle.std.specs.Str.{bytes_eq}
use Rattle.cry_base.specs.Layout.{back_len, batch_len, header_len, payload_offset, tag_offset}
use Rattle.cry_base.specs.Limits.{most_store_bytes}
use Rattle.chacha_seal.specs.Sealing.{veil_of, masked}
use Rattle.commit_journal.specs.declared.head.Head.{Head}
use Rattle.commit_journal.specs.declared.judge.Turn.{Turn}
use Rattle.commit_journal.specs.declared.opening.Opened.{Opened}
use Rattle.commit_journal.specs.declared.opening.Walked.{Walked}
use Rattle.commit_journal.specs.declared.past.Past.{Past}
use Rattle.commit_journal.specs.declared.placed.Body.{Body}
use Rattle.commit_journal.specs.declared.placed.Body.TheVariants as bodies
use Rattle.commit_journal.specs.Answering.{Fault, Damaged, Tampered, and_then}
use Rattle.commit_journal.specs.Log.{PlainTurn, fits_epoch, tag_due, tag_in, payload_in, body_of, placed_body, turn_of, head_at, start_at}
use Rattle.commit_journal.specs.Journals.{JournalState}
use Rattle.commit_journal.specs.Logs.{IsInEpoch}
use Rattle.commit_journal.specs.Placed.{PlainPlaced, plain_log, plain_placed}
use Rattle.commit_journal.specs.Places.{HasSize, at_behind}
use Rattle.commit_journal.specs.Turns.{plain_turn}

-- the head of the batch behind an open gate, which ends within the store limit
unfoldable pub owned_head : ℕ → Past → List ℕ → Result Head Fault
owned_head limit past rest =
    and_then (head_at past rest) (λ head. if nat_le (past.at + (batch_len + head.size)) limit then Ok head else Err (Damaged past.at))

-- the whole of it, unmasked with the veil key that the owner computes: whether it is published is not asked
unfoldable pub owned_turn : List ℕ → Past → Head → List ℕ → Result PlainTurn Fault
owned_turn owner past head batch =
    if bytes_eq (tag_due owner past.tag head.size batch) (tag_in head.size batch)
    then and_then (placed_body past (body_of head (masked (veil_of owner head.epoch.0 head.number) (payload_in head.size batch))))
    (λ body. Ok (turn_of past head batch body))
    else Err (Tampered head.number (past.at + tag_offset + head.size))

unfoldable pub owned_at : ℕ → List ℕ → Past → List ℕ → Result PlainTurn Fault
owned_at limit owner past rest =
    and_then (owned_head limit past rest) (λ head. owned_turn owner past head (take (batch_len + head.size) rest))

-- the batches of a log, and what the next batch follows: how many there are, the last epoch, the end, the last owner tag
pub record OwnedLog : Type 0 where
  pub placed : List PlainPlaced
  pub batches : ℕ
  pub epoch : ℕ
  pub end : ℕ
  pub tag : List ℕ

-- a log that ends here
abbrev pub ends_here : Past → OwnedLog
ends_here past = record { placed = []; batches = past.number; epoch = past.epoch.0; end = past.at; tag = past.tag }

-- batches read before those of the rest of the log
unfoldable pub owned_before : List PlainPlaced → Result OwnedLog Fault → Result OwnedLog Fault
owned_before front (Ok log) = Ok (record log { placed = front ++ log.placed })
owned_before front (Err fault) = Err fault

-- the log behind a gate, by the bytes behind it, of which the first so many belong to the batch before
unfoldable pub owned_log : ℕ → List ℕ → Past → ℕ → List ℕ → Result OwnedLog Fault
owned_log limit owner past skip [] =
    if past.gate == 1 then and_then (owned_at limit owner past []) (λ _. Ok (ends_here past)) else Ok (ends_here past)
owned_log limit owner past (suc skip) (byte ∷ rest) = owned_log limit owner past skip rest
owned_log limit owner past zero (byte ∷ rest) =
    if past.gate == 1
    then and_then (owned_at limit owner past (byte ∷ rest))
    (λ turn. owned_before (turn.placed ∷ []) (owned_log limit owner turn.past (turn.past.at - (past.at + 1)) rest))
    else Ok (ends_here past)

-- the log of an image, or the first test that fails
unfoldable pub opening_verdict : ℕ → List ℕ → List ℕ → Result OwnedLog Fault
opening_verdict limit owner bytes = and_then (start_at owner bytes) (λ past. owned_log limit owner past 0 (drop header_len bytes))

-- the image with the veil key in the slot of each of these batches. A slot stands 32 bytes before its payload
unfoldable pub slots_filled : List ℕ → List PlainPlaced → List ℕ → List ℕ
slots_filled owner [] image = image
slots_filled owner (p ∷ ps) image = slots_filled owner ps (written_at (p.place - 32) (veil_of owner p.epoch.0 p.batch) image)

-- the image as before; or with any bytes in a slot that doesn't hold its veil key
abbrev pub LeavesSlot : ℕ → List ℕ → List ℕ → List ℕ → Type 0
LeavesSlot place veil old new =
    (new ≡ old) ⊎ ((slot : List ℕ) × (length slot ≡ 32) × (slice_range old place (place + 32) ≢ veil) × (new ≡ written_at place slot old))

-- what is left where filling the slots of these batches met a fault of the disk: the first of them are filled, and so is left the next
unfoldable pub LeavesSlots : List ℕ → List PlainPlaced → List ℕ → List ℕ → Type 0
LeavesSlots owner [] old new = new ≡ old
LeavesSlots owner (p ∷ ps) old new =
    LeavesSlot (p.place - 32) (veil_of owner p.epoch.0 p.batch) old new
    ⊎ LeavesSlots owner ps (written_at (p.place - 32) (veil_of owner p.epoch.0 p.batch) old) new

-- what opening leaves of an image where the disk failed: all of it; or, where every test of its log passes, some slots of that log
-- with their veil keys, and the next one with any bytes
abbrev pub LeavesGated : ℕ → List ℕ → List ℕ → List ℕ → Type 0
LeavesGated limit owner old new = (new ≡ old)
    ⊎ ((log : OwnedLog) × (opening_verdict limit owner old ≡ Ok log) × LeavesSlots owner log.placed old new)

-- from this place on the batches stand in the bytes one behind another, each behind its open gate
abbrev pub AreGated : ℕ → List PlainPlaced → List ℕ → Type 0
AreGated from [] bytes = Unit {0}
AreGated from (p ∷ ps) bytes =
    (from + payload_offset ≤ p.place) × IsGatedAt (p.place - payload_offset) batch_len bytes × AreGated (p.place + back_len) ps bytes

-- a log that was walked, and a journal that was opened on it, without the room that they have
abbrev pub plain_walked : Walked → OwnedLog
plain_walked w = record { placed = plain_log w.placed; batches = w.past.number; epoch = w.past.epoch.0; end = w.past.at; tag = w.past.tag }

abbrev pub plain_opened : Opened → OwnedLog
plain_opened o = record {
  placed = plain_log o.placed;
  batches = o.journal.batches;
  epoch = o.journal.epoch;
  end = o.journal.end;
  tag = o.journal.tag;
}

-- the journal that goes on behind a log. What it has room for is not said
abbrev pub journal_behind : List ℕ → ℕ → Past → JournalState → JournalState
journal_behind owner limit past j = record {
  owner = owner;
  batches = past.number;
  epoch = past.epoch.0;
  has_epoch = false;
  end = past.at;
  tag = past.tag;
  limit = limit;
  is_closed = false;
  room = j.room;
}

-- a journal that was opened with this key and this limit: it has begun no epoch, and is open
pub record IsOpened (owner : List ℕ) (limit : ℕ) (j : JournalState) : Type 0 where
  pub key : j.owner ≡ owner
  pub bound : j.limit ≡ limit
  pub not_begun : j.has_epoch ≡ false
  pub not_closed : j.is_closed ≡ false

-- each batch has its bytes, and no more epochs were begun than there are batches
pub record HasRoom (past : Past) : Type 0 where
  pub behind : header_len + batch_len * past.number ≤ past.at
  pub within : past.at ≤ most_store_bytes
  pub epochs : past.epoch.0 ≤ past.number

-- the head is that of the next batch
abbrev pub IsNext : Past → Head → Type 0
IsNext past head = (head.number ≡ past.number + 1) × (head.epoch.0 ≤ past.epoch.0 + 1) × (fits_epoch past head ≡ true)

-- the body is that of a batch with this type byte
abbrev pub HasType : ℕ → Body → Type 0
HasType byte (bodies.Commands payload) = byte ≢ 2
HasType byte bodies.NewEpoch = byte ≡ 2

-- the turn of the batch with this head
pub record IsTurnOf (past : Past) (head : Head) (turn : Turn) : Type 0 where
  pub batch : turn.placed.batch ≡ head.number
  pub place : turn.placed.place ≡ past.at + payload_offset
  pub next : turn.past.at ≡ past.at + (batch_len + head.size)
  pub number : turn.past.number ≡ head.number
  pub epoch : turn.past.epoch.0 ≡ head.epoch.0
  pub same_epoch : turn.placed.epoch.0 ≡ head.epoch.0
  pub type_of : HasType head.type_byte turn.placed.body
  pub size : HasSize head.size turn.placed.body

-- the turn of the next batch, which ends within so many bytes
pub record IsNextTurn (past : Past) (size : ℕ) (turn : Turn) : Type 0 where
  pub batch : turn.placed.batch ≡ past.number + 1
  pub place : turn.placed.place ≡ past.at + payload_offset
  pub ahead : past.at + batch_len ≤ turn.past.at
  pub inside : turn.past.at ≤ size
  pub within : turn.past.at ≤ most_store_bytes
  pub number : turn.past.number ≡ past.number + 1
  pub epoch : turn.past.epoch.0 ≤ past.epoch.0 + 1

-- the turn's batch stands in its epoch, and what follows counts on from there
abbrev pub IsTurnIn : Past → PlainTurn → Type 0
IsTurnIn past turn = IsInEpoch past.epoch.0 turn.placed.epoch.0 turn.placed.body × (turn.past.epoch.0 ≡ turn.placed.epoch.0)

-- the same of a turn, where the log goes on
abbrev pub IsNextOf : Past → Head → Option Turn → Type 0
IsNextOf past head None = Unit {0}
IsNextOf past head (Some turn) = IsTurnOf past head turn

abbrev pub GoesOnTo : Past → ℕ → Option Turn → Type 0
GoesOnTo past size None = Unit {0}
GoesOnTo past size (Some turn) = IsNextTurn past size turn

abbrev pub GoesOnIn : Past → Option Turn → Type 0
GoesOnIn past None = Unit {0}
GoesOnIn past (Some turn) = IsTurnIn past (plain_turn turn)

-- what is known behind the turn's batch is where it ends
abbrev pub EndsBehind : Option Turn → Type 0
EndsBehind None = Unit {0}
EndsBehind (Some turn) = turn.past.at ≡ at_behind (plain_placed turn.placed)
