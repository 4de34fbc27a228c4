-- A journal that is open for writing, and the log that it stands for. This project's own, docs/FORMAT.md, "The file" and
-- "Committing".
use Rattle.std.specs.Prelude.{◌≡◌, ◌⊎◌, ◌≤◌, ◌+◌, ◌-◌, ℕ, Bool, false, nat_lt, if◌then◌else◌, List, [], ◌∷◌, ◌++◌, drop, length, Option}
use Rattle.std.specs.Prelude.{None, Some}
use Rattle.cry_base.specs.Layout.{batch_len, header_len}
use Rattle.chacha_seal.specs.Sealing.{check_of}
use Rattle.cry_io.specs.Told.{WhereBothTold}
use Rattle.commit_journal.specs.declared.batch_type.BatchType.TheVariants.{Command, NewEpoch}
use Rattle.commit_journal.specs.declared.commit_fault.CommitFault.{CommitFault}
use Rattle.commit_journal.specs.declared.commit_fault.CommitFault.TheVariants as faults
use Rattle.commit_journal.specs.Image.{Batch, owner_tag, image}
use Rattle.commit_journal.specs.Standing.{StandsFor, StandsWhole, last_tag}

-- the owner's key; how many batches the log has, the epoch that was begun last (0 for none), whether this session began it,
-- where the next batch would begin, the last owner tag; the most bytes that the store may have; whether a disk fault closed
-- the journal; how many bytes of a payload it has room for
pub record JournalState : Type 0 where
  pub owner : List ℕ
  pub batches : ℕ
  pub epoch : ℕ
  pub has_epoch : Bool
  pub end : ℕ
  pub tag : List ℕ
  pub limit : ℕ
  pub is_closed : Bool
  pub room : ℕ

-- the batch that begins this epoch
abbrev pub epoch_batch : ℕ → ℕ → Batch
epoch_batch number epoch = record { type_of = NewEpoch; number = number; epoch = epoch; payload = [] }

-- the batch that begins the next epoch of a journal
abbrev pub next_epoch : JournalState → Batch
next_epoch j = epoch_batch (j.batches + 1) (j.epoch + 1)

-- the batch of a command with this payload
abbrev pub command_batch : ℕ → ℕ → List ℕ → Batch
command_batch number epoch payload = record { type_of = Command; number = number; epoch = epoch; payload = payload }

-- the batch of a journal's next command
abbrev pub next_command : JournalState → List ℕ → Batch
next_command j payload = command_batch (j.batches + 1) j.epoch payload

-- the epoch of the last batch: each command stands in the epoch that was begun last
abbrev pub last_epoch : ℕ → List Batch → ℕ
last_epoch epoch [] = epoch
last_epoch epoch (b ∷ bs) = last_epoch b.epoch bs

-- the journal stands for these batches: it knows what follows them
pub record IsJournalOf (bs : List Batch) (j : JournalState) : Type 0 where
  pub batches : j.batches ≡ length bs
  pub epoch : j.epoch ≡ last_epoch 0 bs
  pub end : j.end ≡ length (image j.owner bs) + 1
  pub tag : j.tag ≡ last_tag j.owner bs

-- the journal that goes on behind this batch
pub record IsBehind (b : Batch) (old new : JournalState) : Type 0 where
  pub owner : new.owner ≡ old.owner
  pub batches : new.batches ≡ b.number
  pub epoch : new.epoch ≡ b.epoch
  pub end : new.end ≡ old.end + (batch_len + length b.payload)
  pub tag : new.tag ≡ owner_tag old.owner old.tag b
  pub limit : new.limit ≡ old.limit
  pub open_still : new.is_closed ≡ old.is_closed

-- a journal with one batch more: of whatever batches it stood, it now stands for one more, and where the disk showed
-- the whole image of those, it now shows the whole image of all, and behind its closed gate what stood there before: nothing, where
-- nothing did
pub record Joins (b : Batch) (old new : JournalState) (was shows : Option (List ℕ)) : Type 0 where
  pub stands : (bs : List Batch) → IsJournalOf bs old → IsJournalOf (bs ++ b ∷ []) new
  pub shown : (bs : List Batch) → IsJournalOf bs old
      → WhereBothTold was shows (λ x y. StandsWhole old.owner bs x → StandsWhole old.owner (bs ++ b ∷ []) y)
  pub ended : (bs : List Batch) → IsJournalOf bs old
      → WhereBothTold was shows (λ x y. x ≡ image old.owner bs ++ 0 ∷ [] → y ≡ image old.owner (bs ++ b ∷ []) ++ 0 ∷ [])
  pub further : old.end ≤ new.end
  pub behind : (bs : List Batch) → IsJournalOf bs old
      → WhereBothTold was shows (λ x y. StandsWhole old.owner bs x → drop new.end y ≡ drop new.end x)

-- what a commit leaves that met a fault of the disk: of whatever batches the disk showed the whole image, it now shows bytes that
-- stand for these, or for these and one more
abbrev pub MayJoin : Batch → JournalState → Option (List ℕ) → Option (List ℕ) → Type 0
MayJoin b old was shows = (bs : List Batch) → IsJournalOf bs old
    → WhereBothTold was shows (λ x y. StandsWhole old.owner bs x → StandsFor old.owner bs y ⊎ StandsFor old.owner (bs ++ b ∷ []) y)

-- why a journal takes no batch with a payload of so many bytes, if it takes none: an earlier fault is told first
abbrev pub refusal : JournalState → ℕ → Option CommitFault
refusal j payload =
    if j.is_closed then Some faults.Closed
    else (if nat_lt j.limit (j.end + (batch_len + payload)) then Some (faults.Full (batch_len + payload) (j.limit - j.end)) else None)

-- where the log would end with a batch of a payload of so many bytes, and with one that begins an epoch before it where
-- this session has begun none
abbrev pub end_with : JournalState → ℕ → ℕ
end_with j payload = j.end + (batch_len + payload) + (if j.has_epoch then 0 else batch_len)

-- the journal of a store that has no batch yet. What it has room for is not said
abbrev pub empty_journal : List ℕ → ℕ → JournalState → JournalState
empty_journal owner limit j = record {
  owner = owner;
  batches = 0;
  epoch = 0;
  has_epoch = false;
  end = header_len;
  tag = check_of owner;
  limit = limit;
  is_closed = false;
  room = j.room;
}
