-- What a command leaves of an owner and of the disk, and what is answered. This project's own, docs/FORMAT.md, "The key step"
-- and "Committing".
use Rattle.std.specs.Prelude.{◌≡◌, ◌⊎◌, ◌<◌, ◌≤◌, ℕ, ◌*◌, true, false, not, cond, List, [], ◌++◌, drop, length, replicate, Option, Some}
use Rattle.std.specs.Prelude.{None, Result, Ok, Err, IsTrue, All, is_some}
use Rattle.std.specs.List.{flat_map}
use Rattle.chacha_seal.specs.Keys.{KeyParts}
use Rattle.chacha_seal.specs.Sealing.{check_of}
use Rattle.chacha_seal.specs.Serials.{Counting}
use Rattle.commit_journal.specs.Holding.{IsBetween}
use Rattle.commit_journal.specs.Journals.{JournalState, Joins, MayJoin, next_command, next_epoch}
use Rattle.commit_journal.specs.Standing.{StandsWhole}
use Rattle.cry_base.specs.Store.{Store}
use Rattle.cry_base.specs.declared.commands.Reply.{Reply}
use Rattle.cry_base.specs.declared.commands.Reply.TheVariants as replies
use Rattle.cry_io.specs.Told.{WhereTold, WhereBothTold}
use Rattle.folder_nodes.specs.Titles.{tree_store}
use Rattle.record_format.specs.Noted.{Note}
use Rattle.record_format.specs.declared.note.Note.{Note as Declared}
use Rattle.record_format.specs.Plain.{PlainPayload}
use Rattle.record_format.specs.Spelling.{spell_payload}
use Rattle.record_format.specs.Told.{told_note}
use Rattle.public_fold.specs.Fitted.{told_stand, told_step}
use Rattle.public_fold.specs.Heads.{IsSkeleton}
use Rattle.public_fold.specs.Journal.{Journal, Stand, first_key, note_step}
use Rattle.public_fold.specs.Preparing.{begun}
use Rattle.public_fold.specs.Standing.{IsSeenAs, with_room_of}
use Rattle.public_fold.specs.declared.heads.Skeleton.{Skeleton}
use Rattle.journal_bytes.specs.Bytes.{batches_of, step_payload}
use Rattle.journal_bytes.specs.Journals.{StandsForJournal}
use Rattle.journal_bytes.specs.Owning.{IsStoreOf, IsTreeOf}
use Rattle.journal_bytes.specs.Sealing.{HoldsKeys, IsSealable, IsTold, keys_with}
use Rattle.store_owner.specs.Deeds.{AreDeedTitles, Deed, deed_answer, deed_draws, deed_key, deed_note, deed_reply, deed_text, deed_then}
use Rattle.store_owner.specs.declared.apply_fault.ApplyFault.{ApplyFault}
use Rattle.store_owner.specs.declared.apply_fault.ApplyFault.TheVariants as faults
use Rattle.store_owner.specs.Owned.{IsOwnerOf, OwnerView, limits_in}
use Rattle.store_owner.specs.Sound.{granted_in}
use Rattle.store_owner.specs.Stopping.{ComesToRest, StopsBetween}

-- the text that a command seals, a new holder's key included
abbrev pub sealed_text : OwnerView → Deed → List (List ℕ) → List ℕ
sealed_text o d drawn = deed_text (tree_store o.state.tree o.names) d ++ deed_key d (first_key drawn)

-- the owner once more, with other room for what is to come
pub record HasOtherRoom (old new : OwnerView) : Type 0 where
  pub key : new.key ≡ old.key
  pub journal : new.journal ≡ record old.journal { room = new.journal.room }
  pub state : new.state ≡ with_room_of old.state new.state
  pub folder_names : new.names.folders ≡ old.names.folders
  pub file_names : new.names.files ≡ old.names.files
  pub ring_keys : new.ring.keys ≡ old.ring.keys
  pub counter : new.counter ≡ old.counter
  pub file_bytes : new.file_bytes ≡ old.file_bytes
  pub tally : new.tally ≡ old.tally

-- the skeleton is that of the request's step, whatever state the owner's is seen as
abbrev pub IsStepOf : Deed → OwnerView → Skeleton → Type 0
IsStepOf d old skeleton = (at : Stand) (s : Store) → IsSeenAs old.state at → IsStoreOf old.state.tree old.names (granted_in old) s
    → IsSkeleton (told_step (begun (not old.journal.has_epoch) at) (deed_note s d (replicate 32 0))) skeleton

-- What is sealed for a command, whatever the owner stands for, once the session has its epoch: the note with the check of the drawn
-- key; the skeleton of its step; the payload; the journal with its room, and with its epoch; what the disk showed then; the counter.
pub record IsSealed (d : Deed) (drawn : List (List ℕ)) (old : OwnerView) (was : Option (List ℕ)) : Type 0 where
  pub note : Declared
  pub skeleton : Skeleton
  pub payload : PlainPayload
  pub ready : JournalState
  pub between : JournalState
  pub showed : Option (List ℕ)
  pub starts : Counting
  pub drawn_count : length drawn ≡ length skeleton.keys.items
  pub drawn_sizes : All (λ (key : List ℕ). length key ≡ 32) drawn
  pub told : (s : Store) → IsStoreOf old.state.tree old.names (granted_in old) s
      → told_note note ≡ deed_note s d (check_of (first_key drawn))
  pub is_skeleton : IsStepOf d old skeleton
  pub has_room : ready ≡ record old.journal { room = ready.room }
  pub begins : cond old.journal.has_epoch ((between ≡ ready) × (showed ≡ was)) (Joins (next_epoch ready) ready between was showed
      × (between.owner ≡ ready.owner))
  pub stays_told : is_some showed ≡ is_some was
  pub starts_as : cond old.journal.has_epoch (old.counter ≡ Some starts) (starts ≡ record { epoch = between.epoch; count = 0 })
  pub payload_is : (keys : List KeyParts) (at : Stand) (other : Note) (after : Store) → HoldsKeys keys at.keys old.ring starts
      → IsTold (note_step at other after) skeleton (sealed_text old d drawn)
      → payload ≡ step_payload (keys_with keys (note_step at other after) drawn) note (note_step at other after)

-- What the calls that carry out a command leave, whatever the owner stands for: what was sealed is committed, and the owner goes on
-- behind it, with the counter at the end.
pub record IsCarriedOut (d : Deed) (drawn : List (List ℕ)) (old new : OwnerView) (was shows : Option (List ℕ)) : Type 0 where
  pub sealed : IsSealed d drawn old was
  pub ends : Counting
  pub same_key : new.key ≡ old.key
  pub same_bound : new.file_bytes ≡ old.file_bytes
  pub seen_then : (at : Stand) (s : Store) → IsSeenAs old.state at → IsStoreOf old.state.tree old.names (granted_in old) s
      → IsSeenAs new.state (told_stand (begun (not old.journal.has_epoch) at) (deed_note s d (replicate 32 0)))
  pub keys_then : (keys : List KeyParts) (at : Stand) (other : Note) (after : Store) → HoldsKeys keys at.keys old.ring sealed.starts
      → IsSealable (note_step at other after) → IsSkeleton (note_step at other after) sealed.skeleton
      → HoldsKeys (keys_with keys (note_step at other after) drawn) (note_step at other after).after new.ring ends
  pub ends_as : new.counter ≡ Some ends
  pub commits : Joins (next_command sealed.between (spell_payload sealed.payload)) sealed.between new.journal sealed.showed shows
  pub same_owner : new.journal.owner ≡ sealed.between.owner
  pub same_epoch : new.journal.epoch ≡ sealed.between.epoch
  pub has_begun : new.journal.has_epoch ≡ true
  pub same_limit : new.journal.limit ≡ old.journal.limit
  pub titles_then : (s : Store) → IsTreeOf (tree_store old.state.tree old.names) s → AreDeedTitles s d old.names new.names

-- What a fault of the disk leaves of a command that was drawn: its epoch was not begun, as far as is known; or it was sealed, and not
-- committed, as far as is known.
abbrev pub IsInterrupted : Deed → List (List ℕ) → OwnerView → Option (List ℕ) → Option (List ℕ) → Type 0
IsInterrupted d drawn old was shows =
    ((old.journal.has_epoch ≡ false) × ((ready : JournalState) × (ready ≡ record old.journal { room = ready.room })
    × MayJoin (next_epoch ready) ready was shows))
    ⊎ ((sealed : IsSealed d drawn old was) × MayJoin (next_command sealed.between (spell_payload sealed.payload)) sealed.between
    sealed.showed shows)

-- An accepted command of an owner who stands for a journal: it drew keys from the next random bytes, its reply has them in their
-- places, the owner stands for the journal with the command, and so does the disk where it showed the journal; behind the log's new end
-- it shows what it showed there. Where the disk rested at the journal, it comes to rest at the journal with the command.
pub record IsDone (m : Journal) (d : Deed) (reply : Reply) (old new : OwnerView) (left_before left_after was shows : Option (List ℕ))
    (might may : List ℕ → Type 0) (since : List ℕ → List ℕ → Type 0) : Type 0 where
  pub drawn : List (List ℕ)
  pub drawn_count : length drawn ≡ deed_draws m d
  pub drawn_sizes : All (λ (key : List ℕ). length key ≡ 32) drawn
  pub accepted : deed_answer (limits_in old) m old.journal.has_epoch d ≡ None
  pub reply_is : reply ≡ deed_reply m d drawn
  pub owner_is : IsOwnerOf (deed_then m old.journal.has_epoch d drawn) new
  pub has_begun : new.journal.has_epoch ≡ true
  pub same_key : new.key ≡ old.key
  pub same_limits : limits_in new ≡ limits_in old
  pub next_bytes : WhereBothTold left_before left_after (λ before after. before ≡ flat_map (λ (key : List ℕ). key) drawn ++ after)
  pub disk_stands : WhereBothTold was shows (λ x y. StandsWhole old.key (batches_of old.key m) x
      → StandsWhole old.key (batches_of old.key (deed_then m old.journal.has_epoch d drawn)) y)
  pub further : old.journal.end ≤ new.journal.end
  pub disk_behind : WhereBothTold was shows (λ x y. StandsWhole old.key (batches_of old.key m) x
      → drop new.journal.end y ≡ drop new.journal.end x)
  pub comes_to_rest : ComesToRest old.key m (deed_then m old.journal.has_epoch d drawn) was shows might may since

-- A command that met a fault of the disk: it drew keys of 32 bytes from the next random bytes; and where the disk showed the whole of the
-- journal, it shows bytes that stand for the journal, or for it with the session begun, or with the command too. Where the disk rested at
-- the journal, a stop left one of the three at each moment.
pub record IsCutShort (m : Journal) (d : Deed) (old : OwnerView) (left_before left_after was shows : Option (List ℕ))
    (might may : List ℕ → Type 0) (since : List ℕ → List ℕ → Type 0) : Type 0 where
  pub drawn : List (List ℕ)
  pub drawn_count : length drawn ≡ deed_draws m d
  pub drawn_sizes : All (λ (key : List ℕ). length key ≡ 32) drawn
  pub next_bytes : WhereBothTold left_before left_after (λ before after. before ≡ flat_map (λ (key : List ℕ). key) drawn ++ after)
  pub disk_stands : WhereBothTold was shows (λ x y. StandsWhole old.key (batches_of old.key m) x
      → IsBetween (StandsForJournal old.key) m (deed_then m old.journal.has_epoch d drawn) y)
  pub stops : StopsBetween old.key m (deed_then m old.journal.has_epoch d drawn) was shows might may since

-- What a command is answered by an owner who stands for a journal. A refused one changes nothing; after a source that failed
-- or ended, and for want of memory, the owner is as it was; after a disk that failed its journal is closed. A disk that rested at
-- the journal still rests there, unless the command was done or the disk failed.
abbrev pub Answers : Result Reply ApplyFault → Journal → Deed → OwnerView → OwnerView → Option (List ℕ) → Option (List ℕ)
    → Option (List ℕ) → Option (List ℕ)
    → (List ℕ → Type 0) → (List ℕ → Type 0) → (List ℕ → List ℕ → Type 0) → Type 0
Answers (Ok (replies.Refused why)) m d old new left_before left_after was shows might may since =
    (deed_answer (limits_in old) m old.journal.has_epoch d ≡ Some why) × (new ≡ old) × ComesToRest old.key m m was shows might may since
Answers (Ok reply) m d old new left_before left_after was shows might may since = IsDone m d reply old new left_before left_after was shows
    might may since
Answers (Err (faults.RandomShort left need)) m d old new left_before left_after was shows might may since =
    (deed_answer (limits_in old) m old.journal.has_epoch d ≡ None) × HasOtherRoom old new × (need ≡ 32 * deed_draws m d) × (left < need)
    × WhereTold left_before (λ before. length before ≡ left) × WhereTold left_after (λ after. after ≡ [])
    × ComesToRest old.key m m was shows might may since
Answers (Err faults.RandomFault) m d old new left_before left_after was shows might may since =
    (deed_answer (limits_in old) m old.journal.has_epoch d ≡ None) × HasOtherRoom old new
    × ComesToRest old.key m m was shows might may since
Answers (Err faults.DiskFault) m d old new left_before left_after was shows might may since =
    (deed_answer (limits_in old) m old.journal.has_epoch d ≡ None) × IsTrue new.journal.is_closed
    × IsCutShort m d old left_before left_after was shows might may since
Answers (Err faults.Closed) m d old new left_before left_after was shows might may since =
    IsTrue old.journal.is_closed × (new ≡ old) × ComesToRest old.key m m was shows might may since
Answers (Err faults.OutOfMemory) m d old new left_before left_after was shows might may since =
    HasOtherRoom old new × ComesToRest old.key m m was shows might may since

-- What no journal is needed for. A refusal, Closed and want of memory touch neither the source nor the disk, and the first two
-- not the owner; a source that failed or ended touches no disk
abbrev pub IsKeptBy : {R D : Type 0} → Result Reply ApplyFault → OwnerView → OwnerView → R → R → D → D → Type 0
IsKeptBy (Ok (replies.Refused why)) old new random_old random_new disk_old disk_new = (new ≡ old) × (random_new ≡ random_old)
    × (disk_new ≡ disk_old)
IsKeptBy (Ok reply) old new random_old random_new disk_old disk_new = new.journal.has_epoch ≡ true
IsKeptBy (Err faults.Closed) old new random_old random_new disk_old disk_new = (new ≡ old) × (random_new ≡ random_old)
    × (disk_new ≡ disk_old)
IsKeptBy (Err faults.OutOfMemory) old new random_old random_new disk_old disk_new = HasOtherRoom old new × (random_new ≡ random_old)
    × (disk_new ≡ disk_old)
IsKeptBy (Err faults.RandomFault) old new random_old random_new disk_old disk_new = HasOtherRoom old new × (disk_new ≡ disk_old)
IsKeptBy (Err (faults.RandomShort left need)) old new random_old random_new disk_old disk_new = HasOtherRoom old new × (disk_new ≡ disk_old)
IsKeptBy (Err faults.DiskFault) old new random_old random_new disk_old disk_new = IsTrue new.journal.is_closed

-- P holds where the command was done; where no disk failed
abbrev pub IsDoneThen : Result Reply ApplyFault → Type 0 → Type 0
IsDoneThen (Ok (replies.Refused why)) P = Unit {0}
IsDoneThen (Ok reply) P = P
IsDoneThen (Err fault) P = Unit {0}

abbrev pub UnlessDiskFault : Result Reply ApplyFault → Type 0 → Type 0
UnlessDiskFault (Err faults.DiskFault) P = Unit {0}
UnlessDiskFault result P = P

-- the count of the disk's faults never falls, and DiskFault comes only where it rose
abbrev pub DiskCounts : Result Reply ApplyFault → ℕ → ℕ → Type 0
DiskCounts (Err faults.DiskFault) old new = old < new
DiskCounts result old new = old ≤ new
