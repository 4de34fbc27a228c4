-- The three steps by which a batch joins a log, and what they leave of the bytes. This project's own, docs/FORMAT.md, "Committing".
use Rattle.std.specs.Prelude.{◌≡◌, ◌≢◌, ◌⊎◌, ◌≤◌, ◌+◌, ◌-◌, ℕ, List, [], ◌∷◌, ◌++◌, length, take, drop, replicate, slice_index, slice_range}
use Rattle.cry_base.specs.Layout.{head_len, payload_offset, slot_offset}

-- the bytes with others at a place
abbrev pub written_at : ℕ → List ℕ → List ℕ → List ℕ
written_at place bytes old = take place old ++ bytes ++ drop (place + length bytes) old

-- the slot of a batch that isn't published
unfoldable pub zero_slot : List ℕ
zero_slot = replicate 32 0

-- a batch that may be staged: a head, a slot of zeros, what follows it, and a closed gate
pub record IsStageable (body : List ℕ) : Type 0 where
  pub head : List ℕ
  pub rest : List ℕ
  pub head_size : length head ≡ head_len
  pub rest_size : 64 ≤ length rest
  pub body_is : body ≡ head ++ (zero_slot ++ (rest ++ 0 ∷ []))

-- a log ends at this place: the gate before it is closed
pub record EndsAt (end : ℕ) (bytes : List ℕ) : Type 0 where
  pub front : List ℕ
  pub gate : ℕ
  pub behind : List ℕ
  pub place : length front + 1 ≡ end
  pub closed : gate ≢ 1
  pub bytes_are : bytes ≡ front ++ gate ∷ behind

-- the batch stands at this place
abbrev pub StandsAt : ℕ → List ℕ → List ℕ → Type 0
StandsAt end body bytes = slice_range bytes end (end + length body) ≡ body

-- the batch stands behind the closed gate that ends the log
pub record IsStagedAt (end : ℕ) (body bytes : List ℕ) : Type 0 where
  pub closed : EndsAt end bytes
  pub stands : StandsAt end body bytes

-- the gate before this place is open, and so many bytes stand behind it
pub record IsGatedAt (end len : ℕ) (bytes : List ℕ) : Type 0 where
  pub opened : slice_index bytes (end - 1) ≡ 1
  pub inside : end + len ≤ length bytes

-- a batch with these bytes in its slot
abbrev pub with_slot : List ℕ → List ℕ → List ℕ
with_slot slot batch = take head_len batch ++ (slot ++ drop payload_offset batch)

-- the gate before the end of the log is open, and behind it stands the batch with its veil key in its slot. What stood
-- there is written over, and what stood behind that stays
abbrev pub Commits : ℕ → List ℕ → List ℕ → List ℕ → List ℕ → Type 0
Commits end batch veil old new =
    (front behind : List ℕ) (gate : ℕ) → length front + 1 ≡ end → old ≡ front ++ gate ∷ behind →
    new ≡ front ++ (1 ∷ (with_slot veil batch ++ drop (length batch) behind))

-- A commit that met a fault of the disk: that gate is as it was, and anything stands behind it; or the gate may hold any byte, and
-- behind it stands the batch with any bytes in its slot
abbrev pub Interrupts : ℕ → List ℕ → List ℕ → List ℕ → Type 0
Interrupts end batch old new =
    (front behind : List ℕ) (gate : ℕ) → length front + 1 ≡ end → old ≡ front ++ gate ∷ behind →
    ((after : List ℕ) × (new ≡ front ++ gate ∷ after))
    ⊎ ((now : ℕ) × (slot after : List ℕ) × (length slot ≡ 32) × (new ≡ front ++ (now ∷ (with_slot slot batch ++ after))))

-- the whole batch, its slot aside, stands behind an open gate
pub record HoldsBatch (end : ℕ) (batch bytes : List ℕ) : Type 0 where
  pub front : List ℕ
  pub slot : List ℕ
  pub behind : List ℕ
  pub place : length front + 1 ≡ end
  pub slot_size : length slot ≡ 32
  pub bytes_are : bytes ≡ front ++ (1 ∷ (with_slot slot batch ++ behind))

-- Where the gate that is shown is open and the slot that is shown isn't zero, a stop, then or later, leaves the whole batch behind an open
-- gate: what was published is not taken back
abbrev pub IsHeldWhereShown : ℕ → List ℕ → List ℕ → List ℕ → Type 0
IsHeldWhereShown end batch s c =
    slice_index s (end - 1) ≡ 1 → slice_range s (end + slot_offset) (end + payload_offset) ≢ zero_slot → HoldsBatch end batch c
