-- How a command ends that opens a store for writing, and what it leaves of one that it doesn't open. This project's own,
-- docs/PROGRAM.md, "The program".
--
-- It opens no store where its input hands in no key, where the store's bytes are refused under that key, and where before that something
-- outside failed or memory was wanting. Whatever it answers then, it drew and printed nothing. At each moment of the call the file is as it
-- was, but for slots that a stop had left without their keys: where under that key every test of the log passes, these may be filled, and
-- the one that is being filled may hold any bytes.
use Rattle.std.specs.Prelude.{◌≡◌, ◌≢◌, ◌⊎◌, ◌↔◌, ◌≤◌, ℕ, List, Option, Some, None, Ok, is_some}
use Rattle.commit_journal.specs.Answering.{Damaged, NotAStore, Tampered, WrongKey}
use Rattle.commit_journal.specs.Moments.{OpensThroughout}
use Rattle.commit_journal.specs.declared.fault.OpenFault.{OpenFault}
use Rattle.commit_journal.specs.declared.fault.OpenFault.TheVariants as opening
use Rattle.cry_base.specs.Limits.{most_file_bytes, most_store_bytes}
use Rattle.cry_io.specs.Stops.{IsDurable}
use Rattle.cry_io.specs.Told.{WhereTold, WhereBothTold}
use Rattle.cry_io.specs.declared.disk.Disk as disk
use Rattle.journal_bytes.specs.Journals.{ShowsJournal}
use Rattle.log_visits.specs.Asking.{OpenStore, opened_store, verdict}
use Rattle.log_visits.specs.Asking.Asking.{ToWrite}
use Rattle.log_visits.specs.Judging.{Failure, OfBytes}
use Rattle.public_fold.specs.Journal.{Journal, keys_of}
use Rattle.store_owner.specs.Opened.{GoesOnBehind, IsFilled, IsFresh, Keeps, LeavesRefused}
use Rattle.store_owner.specs.Owned.{OwnerView}
use Rattle.cli_base.specs.World.{Senses, World}
use Rattle.cli_base.specs.declared.status.Status.{Status}
use Rattle.cli_base.specs.declared.status.Status.TheVariants as statuses

-- how it ends where the store isn't opened
abbrev pub open_status : OpenFault → Status
open_status opening.NotAStore = statuses.NotAStore
open_status opening.WrongKey = statuses.WrongKey
open_status (opening.Damaged at) = statuses.Damaged at
open_status (opening.Tampered batch at) = statuses.Tampered batch at
open_status opening.DiskFault = statuses.DiskFault
open_status opening.OutOfMemory = statuses.OutOfMemory

-- what the bytes of a store, opened for writing, have to do with how the command ends: their verdict is answered exactly, unless something
-- outside failed first or memory was wanting
abbrev pub Judges : Status → Option Failure → Type 0
Judges statuses.NotAStore verdict = verdict ≡ Some (OfBytes NotAStore)
Judges statuses.WrongKey verdict = verdict ≡ Some (OfBytes WrongKey)
Judges (statuses.Damaged at) verdict = verdict ≡ Some (OfBytes (Damaged at))
Judges (statuses.Tampered batch at) verdict = verdict ≡ Some (OfBytes (Tampered batch at))
Judges statuses.ReadFault verdict = Unit {0}
Judges statuses.DiskFault verdict = Unit {0}
Judges statuses.OutOfMemory verdict = Unit {0}
Judges _ verdict = verdict ≡ None

-- each journal that the disk shows under a key that the input hands in is of this version
abbrev pub IsOfVersion : (List ℕ → List ℕ → Type 0) → ℕ → Option (List ℕ) → Option (List ℕ) → Type 0
IsOfVersion HandsIn version typed shown = WhereTold typed (λ bytes. (key : List ℕ) (m : Journal) → HandsIn bytes key
    → ShowsJournal key m shown → (keys_of m).version ≡ version)

-- The opening of a store with a key that didn't come to its end. At each moment, the last one too, the disk shows what it showed, and a
-- stop leaves what it could leave before; or both are what was shown, with slots filled of a log that passes every test. Unless the disk
-- failed the file is left untouched, or with all these slots filled.
pub record WasTried {D : Type 0} (disks : disk.Ghosts D) (status : Status) (key : List ℕ) (old new : D) : Type 0 where
  pub size : disks.size_of new ≡ disks.size_of old
  pub throughout : OpensThroughout most_store_bytes key (disks.shown old) (disks.may_leave old) (disks.since new (disks.moment old))
  pub left : (status ≡ statuses.DiskFault) ⊎ LeavesRefused disks.shown disks.size_of disks.may_leave most_store_bytes key old new

-- The store wasn't opened: nothing was drawn or printed, and the file wasn't touched, or was tried with a key that the input hands in.
-- Where that hands in none, nothing was touched at all.
pub record LeavesUnopened (HandsIn : List ℕ → List ℕ → Type 0) {S R D W : Type 0} (see : Senses S R D W) (status : Status)
    (before after : World S R D W) : Type 0 where
  pub rest_kept : after ≡ record before { input = after.input; disk = after.disk }
  pub store : (after.disk ≡ before.disk)
      ⊎ ((key : List ℕ) × WhereTold (see.inputs.left before.input) (λ bytes. HandsIn bytes key)
      × WasTried see.disks status key before.disk after.disk)

-- The opening of a store with a key that came to its end, as this owner: the bytes pass every test, the owner keeps what they open under
-- that key, and goes on behind their log. At each moment, the last one too, the disk shows what it showed, and a stop leaves what it could
-- leave before; or both are what was shown, with slots filled of that log. In the end all these slots are, and a stop leaves that.
pub record WasOpened {D : Type 0} (disks : disk.Ghosts D) (key : List ℕ) (owner : OwnerView) (old new : D) : Type 0 where
  pub passes : WhereTold (disks.shown old) (λ image. verdict (ToWrite key) image ≡ None)
  pub keeps : WhereTold (disks.shown old) (λ image. (s : OpenStore) × (opened_store key image ≡ Ok s) × Keeps owner s)
  pub behind : WhereTold (disks.shown old) (GoesOnBehind most_store_bytes key owner)
  pub fresh : IsFresh key most_store_bytes most_file_bytes owner
  pub told : is_some (disks.shown new) ≡ is_some (disks.shown old)
  pub size : disks.size_of new ≡ disks.size_of old
  pub later : disks.moment old ≤ disks.moment new
  pub throughout : OpensThroughout most_store_bytes key (disks.shown old) (disks.may_leave old) (disks.since new (disks.moment old))
  pub filled : WhereBothTold (disks.shown old) (disks.shown new) (IsFilled most_store_bytes key)
  pub settled : IsDurable (disks.may_leave new) (disks.shown new)

-- The store was opened, under a key that the input hands in, so that no refusal of its bytes is answered. A stop leaves what is shown
-- behind the call, unless the disk failed. One answer refuses a store, where it is of version 1 and the command isn't for these, or the
-- other way round: then nothing was drawn or printed, and the disk is as the opening left it. At each other the command is for such
-- stores, and each journal that was shown is of its version.
pub record HasOpened (HandsIn : List ℕ → List ℕ → Type 0) (refusal : Status) (version : ℕ) {S R D W : Type 0} (see : Senses S R D W)
    (status : Status) (before after : World S R D W) : Type 0 where
  pub key : List ℕ
  pub owner : OwnerView
  pub opened : D
  pub hands_in : WhereTold (see.inputs.left before.input) (λ bytes. HandsIn bytes key)
  pub opening : WasOpened see.disks key owner before.disk opened
  pub unrefused : Judges status None
  pub settled : status ≢ statuses.DiskFault → IsDurable (see.disks.may_leave after.disk) (see.disks.shown after.disk)
  pub refused : status ≡ refusal
      → ((owner.state.keys.version ≡ 1) ↔ (version ≢ 1)) × (after ≡ record before { input = after.input; disk = opened })
  pub taken : status ≢ refusal → (owner.state.keys.version ≡ 1) ↔ (version ≡ 1)
  pub suits : status ≢ refusal → IsOfVersion HandsIn version (see.inputs.left before.input) (see.disks.shown before.disk)
