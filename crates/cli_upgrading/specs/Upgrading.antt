-- What `upgrade` answers, prints and leaves: on every disk, and on one that shows a journal. This project's own, docs/PROGRAM.md, "The
-- program".
use Rattle.std.specs.Prelude.{◌≡◌, ◌≢◌, ◌<◌, ◌⊎◌, ℕ, ◌*◌, Bool, true, false, List, [], ◌++◌, length, Option, Some, None, Result, Ok, Err}
use Rattle.std.specs.Prelude.{IsTrue, is_some}
use Rattle.cry_base.specs.declared.commands.Refusal.TheVariants.{Full}
use Rattle.cry_base.specs.declared.commands.Reply.{Reply}
use Rattle.cry_base.specs.declared.commands.Reply.TheVariants as replies
use Rattle.cry_io.specs.Told.{WhereTold, WhereBothTold}
use Rattle.cry_io.specs.declared.disk.Disk as disk
use Rattle.cry_io.specs.declared.streams.Sink as sink
use Rattle.cry_io.specs.declared.streams.Source as source
use Rattle.journal_bytes.specs.Journals.{HoldsBetween, ShowsJournal}
use Rattle.journal_bytes.specs.Upgrading.{upgrade_answer, upgrade_draws, upgraded_then}
use Rattle.public_fold.specs.Journal.{Journal, keys_of}
use Rattle.script_text.specs.Printing.{spell_reply}
use Rattle.store_owner.specs.Acting.{Acts}
use Rattle.store_owner.specs.Applying.{IsKeptBy}
use Rattle.store_owner.specs.Deeds.Deed.{Upgrading}
use Rattle.store_owner.specs.Drawing.{AreKeys}
use Rattle.store_owner.specs.Owned.{OwnerView}
use Rattle.store_owner.specs.declared.apply_fault.ApplyFault.{ApplyFault}
use Rattle.cli_base.specs.Input.{IsUnjudgedOwner, ReadsOwner, TakesLines, owner_answer}
use Rattle.cli_base.specs.Outside.{PrintsAll, PrintsFront}
use Rattle.cli_base.specs.World.{Senses, World}
use Rattle.cli_base.specs.declared.status.Status.{Status}
use Rattle.cli_base.specs.declared.status.Status.TheVariants as statuses
use Rattle.cli_sessions.specs.Opening.{HasOpened, LeavesUnopened}
use Rattle.cli_sessions.specs.Sessions.{DrawsNext, IsUnopened, LeavesAt, Seen, apply_status, version_limits}
use Rattle.cli_sessions.specs.Stopping.{KeepsUpTo}

-- ---- on every disk

-- the one line of the whole input hands in this key, an owner's
abbrev pub HandsInAlone : List ℕ → List ℕ → Type 0
HandsInAlone typed key = owner_answer typed ≡ Ok key

-- The whole input handed in this key: it was `first` before it was read, and is `rest` behind that.
pub record HandedIn {S : Type 0} (inputs : source.Ghosts S) (key : List ℕ) (first rest : S) : Type 0 where
  pub told : is_some (inputs.left rest) ≡ is_some (inputs.left first)
  pub reads : WhereBothTold (inputs.left first) (inputs.left rest) (ReadsOwner (Ok key))

-- how `upgrade` may end
abbrev pub is_upgrade_answer : Status → Bool
is_upgrade_answer statuses.Done = true
is_upgrade_answer statuses.Usage = false
is_upgrade_answer (statuses.BadScript line) = true
is_upgrade_answer statuses.ReadFault = true
is_upgrade_answer statuses.WriteFault = true
is_upgrade_answer statuses.DiskFault = true
is_upgrade_answer statuses.RandomFault = true
is_upgrade_answer (statuses.RandomShort left need) = true
is_upgrade_answer statuses.NotAStore = true
is_upgrade_answer (statuses.Damaged at) = true
is_upgrade_answer statuses.WrongKey = true
is_upgrade_answer (statuses.Tampered batch at) = true
is_upgrade_answer statuses.OutOfMemory = true
is_upgrade_answer statuses.NotBlank = false
is_upgrade_answer (statuses.NoHolder known) = false
is_upgrade_answer statuses.Unseen = false
is_upgrade_answer statuses.NeedsUpgrade = false
is_upgrade_answer statuses.AlreadyNew = true
is_upgrade_answer (statuses.Behind have want) = false
is_upgrade_answer (statuses.Forked batches) = false
is_upgrade_answer statuses.BadProof = false

-- how it ends before it opens the store
abbrev pub is_before_opening : Status → Bool
is_before_opening (statuses.BadScript line) = true
is_before_opening statuses.ReadFault = true
is_before_opening _ = false

-- and how at its input, also for want of memory
abbrev pub is_at_input : Status → Bool
is_at_input statuses.OutOfMemory = true
is_at_input status = is_before_opening status

-- how it ends once the store was opened
abbrev pub is_behind_opening : Status → Bool
is_behind_opening statuses.Done = true
is_behind_opening statuses.WriteFault = true
is_behind_opening statuses.RandomFault = true
is_behind_opening (statuses.RandomShort left need) = true
is_behind_opening statuses.AlreadyNew = true
is_behind_opening statuses.DiskFault = true
is_behind_opening statuses.OutOfMemory = true
is_behind_opening _ = false

-- but for what may come before that too
abbrev pub is_after_opening : Status → Bool
is_after_opening statuses.DiskFault = false
is_after_opening statuses.OutOfMemory = false
is_after_opening status = is_behind_opening status

-- how the printing of the reply ends
abbrev pub is_told : Status → Bool
is_told statuses.Done = true
is_told statuses.WriteFault = true
is_told statuses.OutOfMemory = true
is_told _ = false

-- what was taken of the input: all of it once it handed in a key; little behind a bad line; and no bad line before the source failed
abbrev pub TakesAlone : Status → List ℕ → List ℕ → Type 0
TakesAlone (statuses.BadScript line) typed left = TakesLines line typed left
TakesAlone statuses.ReadFault typed left = (given : List ℕ) × (typed ≡ given ++ left) × IsUnjudgedOwner given
TakesAlone statuses.OutOfMemory typed left = Unit {0}
TakesAlone _ typed left = left ≡ []

-- what was printed: the reply, or a front of it, or nothing
abbrev pub PrintsReply : Status → Reply → List ℕ → List ℕ → Type 0
PrintsReply statuses.Done reply before after = PrintsAll (spell_reply reply) before after
PrintsReply statuses.WriteFault reply before after = PrintsFront (spell_reply reply) before after
PrintsReply _ reply before after = after ≡ before

-- ---- by the owner of a store that was opened

-- how the program ends at the owner's answer: at a reply, as the printing of it does
abbrev pub TellsAnswer : Result Reply ApplyFault → Status → Option (List ℕ) → Option (List ℕ) → Type 0
TellsAnswer (Ok reply) status written_before written_after =
    IsTrue (is_told status) × WhereBothTold written_before written_after (PrintsReply status reply)
TellsAnswer (Err fault) status written_before written_after = status ≡ apply_status fault

-- The owner was asked to upgrade the store: what was answered, what that did, and how the program ends at it. `ok` is answered where the
-- upgrade was carried out, and nowhere else: its batch stands, under the keys that were drawn. `refused full` is answered where the owner's
-- own numbers say so, and nowhere else: then nothing was drawn or written.
pub record AsksOwner {R D W : Type 0} (randoms : source.Ghosts R) (disks : disk.Ghosts D) (outs : sink.Ghosts W) (status : Status)
    (owner : OwnerView) (random_old random_new : R) (disk_old disk_new : D) (out_old out_new : W) : Type 0 where
  pub answer : Result Reply ApplyFault
  pub becomes : OwnerView
  pub acts : Acts answer Upgrading owner becomes (randoms.left random_old) (randoms.left random_new) (disks.shown disk_old)
      (disks.shown disk_new)
  pub kept : IsKeptBy answer owner becomes random_old random_new disk_old disk_new
  pub told : TellsAnswer answer status (outs.written out_old) (outs.written out_new)

-- the store wasn't opened: it ended before that
pub record UpgradesUnopened {S R D W : Type 0} (see : Senses S R D W) (status : Status) (before after : World S R D W) : Type 0 where
  pub left : LeavesUnopened HandsInAlone see status before after
  pub early : is_after_opening status ≡ false

-- the store was opened; and then its owner was asked, where it is of version 1
pub record UpgradesOpened {S R D W : Type 0} (see : Senses S R D W) (status : Status) (before after : World S R D W) : Type 0 where
  pub opened : HasOpened HandsInAlone statuses.AlreadyNew 1 see status before after
  pub asks : status ≢ statuses.AlreadyNew → AsksOwner see.randoms see.disks see.outs status opened.owner before.random after.random
      opened.opened after.disk before.out after.out

-- ---- on a disk that shows a journal

-- it is accepted: it drew these keys, it replies so, and the journal goes on with it
abbrev pub IsAccepted : Journal → List (List ℕ) → Reply → Journal → Type 0
IsAccepted m drawn reply now =
    (upgrade_answer version_limits m false ≡ None) × (length drawn ≡ upgrade_draws m) × (reply ≡ replies.Done)
    × (now ≡ upgraded_then m false drawn)

-- the store is too full for it: it drew nothing, and the journal is as it was
abbrev pub IsTooFull : Journal → List (List ℕ) → Reply → Journal → Type 0
IsTooFull m drawn reply now =
    (upgrade_answer version_limits m false ≡ Some Full) × (drawn ≡ []) × (reply ≡ replies.Refused Full) × (now ≡ m)

-- It was answered, and the disk is settled at the journal where that leaves it. That is the journal up to which the call kept what it
-- found; so it is in the records behind this one.
pub record HasAnswered (key : List ℕ) (m : Journal) (seen : Seen) (may_leave : List ℕ → Type 0) (KeepsTo : Journal → Type 0)
    : Type 0 where
  pub first : (keys_of m).version ≡ 1
  pub reply : Reply
  pub drawn : List (List ℕ)
  pub drawn_sizes : AreKeys drawn
  pub now : Journal
  pub answers : IsAccepted m drawn reply now ⊎ IsTooFull m drawn reply now
  pub draws : DrawsNext drawn seen
  pub leaves : LeavesAt key m now seen may_leave
  pub kept : KeepsTo now

-- It wasn't, of a store of this version, and the disk is settled at the journal as it was.
pub record HasRested (version : ℕ) (key : List ℕ) (m : Journal) (seen : Seen) (may_leave : List ℕ → Type 0) (KeepsTo : Journal → Type 0)
    : Type 0 where
  pub is_version : (keys_of m).version ≡ version
  pub leaves : LeavesAt key m m seen may_leave
  pub kept : KeepsTo m

-- It is accepted, drew its keys and met a fault of the disk: what that shows, and whatever a stop may leave, stands for the journal as it
-- was before, or with the session begun, or with the upgrade too.
pub record WasCutShort (key : List ℕ) (m : Journal) (seen : Seen) (may_leave : List ℕ → Type 0) (KeepsTo : Journal → Type 0)
    : Type 0 where
  pub first : (keys_of m).version ≡ 1
  pub is_accepted : upgrade_answer version_limits m false ≡ None
  pub drawn : List (List ℕ)
  pub drawn_count : length drawn ≡ upgrade_draws m
  pub drawn_sizes : AreKeys drawn
  pub draws : DrawsNext drawn seen
  pub holds : HoldsBetween key m (upgraded_then m false drawn) seen.shown may_leave
  pub kept : KeepsTo (upgraded_then m false drawn)

-- it needs so many bytes, and the source ended after fewer, which are gone
pub record RanOut (m : Journal) (left need : ℕ) (left_before left_after : Option (List ℕ)) : Type 0 where
  pub is_need : need ≡ 32 * upgrade_draws m
  pub is_short : left < need
  pub were_left : WhereTold left_before (λ before. length before ≡ left)
  pub nothing_left : WhereTold left_after (λ after. after ≡ [])

-- How `upgrade` ends on a disk that shows a journal, where the input hands in its key. What the bytes of a store answer comes on no such
-- disk.
abbrev pub EndsUpgrade : Status → List ℕ → Journal → Seen → (List ℕ → Type 0) → (Journal → Type 0) → Type 0
EndsUpgrade statuses.Done key m seen may_leave KeepsTo = (answered : HasAnswered key m seen may_leave KeepsTo)
    × WhereBothTold seen.written_before seen.written_after (PrintsAll (spell_reply answered.reply))
EndsUpgrade statuses.WriteFault key m seen may_leave KeepsTo = (answered : HasAnswered key m seen may_leave KeepsTo)
    × WhereBothTold seen.written_before seen.written_after (PrintsFront (spell_reply answered.reply))
EndsUpgrade statuses.AlreadyNew key m seen may_leave KeepsTo =
    HasRested 2 key m seen may_leave KeepsTo × (seen.left_after ≡ seen.left_before)
EndsUpgrade (statuses.RandomShort left need) key m seen may_leave KeepsTo =
    HasRested 1 key m seen may_leave KeepsTo × (upgrade_answer version_limits m false ≡ None)
    × RanOut m left need seen.left_before seen.left_after
EndsUpgrade statuses.RandomFault key m seen may_leave KeepsTo =
    HasRested 1 key m seen may_leave KeepsTo × (upgrade_answer version_limits m false ≡ None)
EndsUpgrade statuses.ReadFault key m seen may_leave KeepsTo = IsUnopened key m seen KeepsTo
EndsUpgrade statuses.DiskFault key m seen may_leave KeepsTo =
    IsUnopened key m seen KeepsTo ⊎ WasCutShort key m seen may_leave KeepsTo
EndsUpgrade statuses.OutOfMemory key m seen may_leave KeepsTo =
    IsUnopened key m seen KeepsTo
    ⊎ (HasRested 1 key m seen may_leave KeepsTo × (seen.left_after ≡ seen.left_before)
    ⊎ HasAnswered key m seen may_leave KeepsTo)
EndsUpgrade _ key m seen may_leave KeepsTo = ⊥

-- so for each journal with that key that the disk showed, with what a stop might leave before, at each moment since, and after
abbrev pub UpgradesTyped : Status → List ℕ → Seen → (List ℕ → Type 0) → (List ℕ → List ℕ → Type 0) → (List ℕ → Type 0) → Type 0
UpgradesTyped status typed seen could_leave since may_leave = (key : List ℕ) (m : Journal) → HandsInAlone typed key
    → ShowsJournal key m seen.was → EndsUpgrade status key m seen may_leave (KeepsUpTo key m seen.was seen.shown could_leave since)
