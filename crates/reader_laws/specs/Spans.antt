-- What the log of a store's bytes answers, said of where its batches stand and of the tests in their order, without a walk. This
-- project's own, docs/FORMAT.md, "The file", "Reading" and "Opening for writing".
use Rattle.std.specs.Prelude.{◌≡◌, ◌≢◌, ◌≤◌, ℕ, zero, suc, ◌+◌, true, List, [], ◌∷◌, ◌++◌, length, take, drop, codes, slice_get}
use Rattle.std.specs.Prelude.{slice_index, slice_range, Option, None, Some, Result, Ok, Err}
use Rattle.hmac_seal.specs.Hmac.{hmac}
use Rattle.chacha_seal.specs.Sealing.{check_of, masked, veil_of}
use Rattle.cry_base.specs.Layout.{batch_len, first_gate_offset, head_len, header_len, magic_len, payload_offset, slot_offset, tag_offset}
use Rattle.cry_base.specs.declared.ids.Epoch.{Epoch}
use Rattle.commit_journal.specs.Answering.{Fault, NotAStore, WrongKey, Damaged, Tampered}
use Rattle.commit_journal.specs.Log.{body_of, check_in, gate_in, head_of, is_batch, payload_in, slot_in, tag_due, tag_in}
use Rattle.commit_journal.specs.Opening.{OwnedLog}
use Rattle.commit_journal.specs.Placed.{PlainBody, PlainPlaced}

-- who reads a log: the owner with a key, a holder, or the owner who opens for writing a store of so many bytes at most
pub data LogReader : Type 0 where
  OwnerReads : (owner : List ℕ) → LogReader
  HolderReads : LogReader
  OwnerWrites : (owner : List ℕ) → (limit : ℕ) → LogReader

-- ---- the header

abbrev pub header_in : List ℕ → List ℕ
header_in bytes = take header_len bytes

abbrev pub IsStore : List ℕ → Type 0
IsStore bytes = (header_len ≤ length bytes) × (take magic_len (header_in bytes) ≡ codes "CRYPTREE" ++ 1 ∷ [])

-- where the reader has the owner's key, the owner check is that key's
abbrev pub HasOwnerCheck : LogReader → List ℕ → Type 0
HasOwnerCheck (OwnerReads owner) bytes = slice_range (header_in bytes) magic_len first_gate_offset ≡ check_of owner
HasOwnerCheck HolderReads bytes = Unit {0}
HasOwnerCheck (OwnerWrites owner limit) bytes = slice_range (header_in bytes) magic_len first_gate_offset ≡ check_of owner

-- ---- a batch

-- where a batch stands: its first byte, and how many bytes its payload has
pub record Span : Type 0 where
  pub start : ℕ
  pub size : ℕ

-- the bytes of the batch in a span, and what its first 13 say: its number, its epoch, and how many bytes its payload has
abbrev pub batch_in : List ℕ → Span → List ℕ
batch_in bytes s = take (batch_len + s.size) (drop s.start bytes)

abbrev pub number_in : List ℕ → Span → ℕ
number_in bytes s = (head_of (take head_len (drop s.start bytes))).number

abbrev pub epoch_in : List ℕ → Span → Epoch
epoch_in bytes s = (head_of (take head_len (drop s.start bytes))).epoch

abbrev pub size_in : List ℕ → Span → ℕ
size_in bytes s = (head_of (take head_len (drop s.start bytes))).size

-- what is known at a place: the number and the epoch of the batch before it, its tag, and the gate
pub record Known : Type 0 where
  pub at : ℕ
  pub number : ℕ
  pub epoch : Epoch
  pub tag : List ℕ
  pub gate : ℕ

-- it is read from the batch in a span; behind the header it is 0 and 0, the owner check, and the header's gate
abbrev pub behind : List ℕ → Option Span → Known
behind bytes None = record {
  at = header_len;
  number = 0;
  epoch = record { 0 = 0 };
  tag = slice_range (header_in bytes) magic_len first_gate_offset;
  gate = slice_index (header_in bytes) first_gate_offset;
}
behind bytes (Some s) = record {
  at = s.start + (batch_len + s.size);
  number = number_in bytes s;
  epoch = epoch_in bytes s;
  tag = tag_in s.size (batch_in bytes s);
  gate = gate_in s.size (batch_in bytes s);
}

-- the span that follows another one, or the header: the gate before it is open, it begins where that one ends, and it is as long as
-- its head says
pub record Follows (bytes : List ℕ) (before : Option Span) (s : Span) : Type 0 where
  pub opened : (behind bytes before).gate ≡ 1
  pub start : s.start ≡ (behind bytes before).at
  pub size : s.size ≡ size_in bytes s

-- The four tests of the batch in such a span, in this order.

-- a store that is opened for writing has a limit of its own
abbrev pub EndsWithin : LogReader → Span → Type 0
EndsWithin (OwnerReads owner) s = Unit {0}
EndsWithin HolderReads s = Unit {0}
EndsWithin (OwnerWrites owner limit) s = s.start + (batch_len + s.size) ≤ limit

-- a batch stands there
abbrev pub IsBatch : LogReader → List ℕ → Option Span → Span → Type 0
IsBatch who bytes before s = let k = behind bytes before in
    (is_batch (record { at = k.at; number = k.number; epoch = k.epoch; tag = k.tag; gate = k.gate })
    (head_of (take head_len (drop s.start bytes)))
    (length (drop s.start bytes)) ≡ true)
    × EndsWithin who s

-- where the reader has the owner's key, it has its owner tag, behind the tag of the batch before, or the owner check
abbrev pub HasTagOf : List ℕ → List ℕ → Option Span → Span → Type 0
HasTagOf owner bytes before s =
    tag_due owner (behind bytes before).tag s.size (batch_in bytes s) ≡ tag_in s.size (batch_in bytes s)

abbrev pub HasOwnerTag : LogReader → List ℕ → Option Span → Span → Type 0
HasOwnerTag (OwnerReads owner) bytes before s = HasTagOf owner bytes before s
HasOwnerTag HolderReads bytes before s = Unit {0}
HasOwnerTag (OwnerWrites owner limit) bytes before s = HasTagOf owner bytes before s

-- it is published: its slot makes its check. The owner who opens for writing doesn't ask
abbrev pub IsPublished : List ℕ → Span → Type 0
IsPublished bytes s = hmac (slot_in (batch_in bytes s)) (payload_in s.size (batch_in bytes s)) ≡ check_in s.size (batch_in bytes s)

abbrev pub PassesSlot : LogReader → List ℕ → Span → Type 0
PassesSlot (OwnerReads owner) bytes s = IsPublished bytes s
PassesSlot HolderReads bytes s = IsPublished bytes s
PassesSlot (OwnerWrites owner limit) bytes s = Unit {0}

-- its payload has a form, unmasked with its slot, or with the veil key that the owner computes who opens for writing
abbrev pub veil_in : LogReader → List ℕ → Span → List ℕ
veil_in (OwnerReads owner) bytes s = slot_in (batch_in bytes s)
veil_in HolderReads bytes s = slot_in (batch_in bytes s)
veil_in (OwnerWrites owner limit) bytes s = veil_of owner (epoch_in bytes s).0 (number_in bytes s)

abbrev pub body_in : LogReader → List ℕ → Span → Result PlainBody ℕ
body_in who bytes s =
    body_of (head_of (take head_len (drop s.start bytes))) (masked (veil_in who bytes s) (payload_in s.size (batch_in bytes s)))

-- a batch that passes all four, and what is read of it
pub record Passes (who : LogReader) (bytes : List ℕ) (before : Option Span) (s : Span) (p : PlainPlaced) : Type 0 where
  pub follows : Follows bytes before s
  pub stands : IsBatch who bytes before s
  pub tagged : HasOwnerTag who bytes before s
  pub published : PassesSlot who bytes s
  pub body : PlainBody
  pub has_form : body_in who bytes s ≡ Ok body
  pub is_read : p ≡ record { batch = number_in bytes s; epoch = epoch_in bytes s; place = s.start + payload_offset; body = body }

-- a batch at which a test fails where those before it pass, and the fault
pub data Fails (who : LogReader) (bytes : List ℕ) (before : Option Span) (s : Span) (fault : Fault) : Type 0 where
  NoBatch : (IsBatch who bytes before s → ⊥) → fault ≡ Damaged s.start → Fails who bytes before s fault
  WrongTag : IsBatch who bytes before s → (HasOwnerTag who bytes before s → ⊥)
      → fault ≡ Tampered (number_in bytes s) (s.start + tag_offset + s.size) → Fails who bytes before s fault
  WrongSlot : IsBatch who bytes before s → HasOwnerTag who bytes before s → (PassesSlot who bytes s → ⊥)
      → (behind bytes (Some s)).gate ≡ 1 → fault ≡ Tampered (number_in bytes s) (s.start + slot_offset) → Fails who bytes before s fault
  NoForm : IsBatch who bytes before s → HasOwnerTag who bytes before s → PassesSlot who bytes s
      → (place : ℕ) → body_in who bytes s ≡ Err place → fault ≡ Damaged (s.start + payload_offset + place) → Fails who bytes before s fault

-- a batch that ends the log: it isn't published, and the gate behind it is closed
pub record IsHidden (who : LogReader) (bytes : List ℕ) (before : Option Span) (s : Span) : Type 0 where
  pub follows : Follows bytes before s
  pub stands : IsBatch who bytes before s
  pub tagged : HasOwnerTag who bytes before s
  pub hidden : PassesSlot who bytes s → ⊥
  pub closed : (behind bytes (Some s)).gate ≢ 1

-- ---- the log

-- the span before the one with this index, if there is one
abbrev pub span_before : List Span → ℕ → Option Span
span_before spans zero = None
span_before spans (suc i) = slice_get spans i

-- the header passes its tests, and so does the batch in each span, which follows the span before, or the header: so the spans tile the
-- bytes from the header on. These batches are read in them
pub record AreRead (who : LogReader) (bytes : List ℕ) (spans : List Span) (log : List PlainPlaced) : Type 0 where
  pub store : IsStore bytes
  pub checked : HasOwnerCheck who bytes
  pub as_many : length log ≡ length spans
  pub each : (i : ℕ) (s : Span) (p : PlainPlaced) → slice_get spans i ≡ Some s → slice_get log i ≡ Some p
      → Passes who bytes (span_before spans i) s p

-- the last of them, if there is one
abbrev pub last_span : List Span → Option Span
last_span spans = span_before spans (length spans)

-- what a store's bytes answer to who reads their log: a test of the header fails; or the log ends before a closed gate, or before a batch
-- that is hidden; or a test fails at the batch behind those that are read
pub data IsAnswer (who : LogReader) (bytes : List ℕ) (answer : Result (List PlainPlaced) Fault) : Type 0 where
  NoStore : (IsStore bytes → ⊥) → answer ≡ Err NotAStore → IsAnswer who bytes answer
  OtherKey : IsStore bytes → (HasOwnerCheck who bytes → ⊥) → answer ≡ Err WrongKey → IsAnswer who bytes answer
  Closed : (spans : List Span) (log : List PlainPlaced) → AreRead who bytes spans log
      → (behind bytes (last_span spans)).gate ≢ 1 → answer ≡ Ok log → IsAnswer who bytes answer
  Hidden : (spans : List Span) (log : List PlainPlaced) → AreRead who bytes spans log
      → (s : Span) → IsHidden who bytes (last_span spans) s → answer ≡ Ok log → IsAnswer who bytes answer
  Failed : (spans : List Span) (log : List PlainPlaced) → AreRead who bytes spans log
      → (s : Span) → Follows bytes (last_span spans) s → (fault : Fault) → Fails who bytes (last_span spans) s fault
      → answer ≡ Err fault → IsAnswer who bytes answer

-- a log that was opened for writing: it ends before the closed gate behind these spans, and what the next batch follows is known there
pub record EndsBehind (bytes : List ℕ) (spans : List Span) (log : OwnedLog) : Type 0 where
  pub closed : (behind bytes (last_span spans)).gate ≢ 1
  pub batches : log.batches ≡ (behind bytes (last_span spans)).number
  pub epoch : log.epoch ≡ (behind bytes (last_span spans)).epoch.0
  pub end : log.end ≡ (behind bytes (last_span spans)).at
  pub tag : log.tag ≡ (behind bytes (last_span spans)).tag
