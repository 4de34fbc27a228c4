-- What the owner's calls make happen to a store. This project's own, docs/MODEL.md.
--
-- `Owner::make` begins a course, and `Owner::open_store` reopens one. A call of `Owner::apply` makes one event of its command happen, or
-- none; a call of `Owner::upgrade` makes one of its upgrade happen, or none. A stop in such a call, or a fault of the disk, cuts it short:
-- what it leaves then is told by the journal for which the bytes stand. It is the course's own: the session's epoch was lost, or, where it
-- was begun before, the batch of the command or the upgrade was abandoned. It has the session begun: that epoch entered, and the batch was
-- abandoned. Or it has what was asked: the batch entered. The call commits the epoch's batch first, so by then it has written no batch
-- that such an event doesn't write.
use Rattle.std.specs.Prelude.{◌≡◌, ◌≤◌, ℕ, List, length, All, IsTrue, Option, Result, Err}
use Rattle.cry_base.specs.declared.commands.Reply.{Reply}
use Rattle.commit_journal.specs.Handing.{Hands}
use Rattle.cry_base.specs.declared.limits.Limits.{Limits}
use Rattle.journal_bytes.specs.Attempts.{Course}
use Rattle.journal_bytes.specs.Attempts.Event.{IsRefused, Enters, IsAbandoned, LosesEpoch, Ends, Reopens}
use Rattle.journal_bytes.specs.Journals.{StandsForJournal}
use Rattle.store_owner.specs.Deeds.{Deed}
use Rattle.store_owner.specs.Deeds.Deed.{Commanded, Upgrading}
use Rattle.store_owner.specs.Owned.{IsOwnerOf, OwnerView, limits_in}
use Rattle.store_owner.specs.declared.apply_fault.ApplyFault.{ApplyFault}
use Rattle.store_owner.specs.declared.apply_fault.ApplyFault.TheVariants as faults
use Rattle.attempt_laws.specs.Happenings.{IsCourse}
use Rattle.attempt_laws.specs.Trials.{Happening, Befalls, BeginsEpoch, UpgradeEnters, UpgradeIsAbandoned, UpgradeIsRefused}
use Rattle.attempt_laws.specs.Trials.{course_after, trial_writes, trials}

-- the owner stands on a course: it stands for the course's journal, and has begun an epoch where the course has
pub record StandsOn (c : Course) (o : OwnerView) : Type 0 where
  pub owner_is : IsOwnerOf c.journal o
  pub has_begun : o.journal.has_epoch ≡ c.begun

-- An event of this command or upgrade: it is refused, or its batch enters or is abandoned; or so does the batch of the epoch that is
-- begun for it.
abbrev pub IsEventOf : Deed → Happening → Type 0
IsEventOf d (Befalls (IsRefused asked)) = Commanded asked ≡ d
IsEventOf d (Befalls (Enters asked keys)) = Commanded asked ≡ d
IsEventOf d (Befalls (IsAbandoned asked keys)) = Commanded asked ≡ d
IsEventOf d (Befalls LosesEpoch) = Unit {0}
IsEventOf d (Befalls Ends) = ⊥
IsEventOf d (Befalls Reopens) = ⊥
IsEventOf d BeginsEpoch = Unit {0}
IsEventOf d UpgradeIsRefused = Upgrading ≡ d
IsEventOf d (UpgradeEnters keys) = Upgrading ≡ d
IsEventOf d (UpgradeIsAbandoned keys) = Upgrading ≡ d

-- what a command or an upgrade made happen: one event of its own that can happen there, or none
pub record Happened (limits : Limits) (c : Course) (d : Deed) : Type 0 where
  pub events : List Happening
  pub at_most_one : length events ≤ 1
  pub of_deed : All (IsEventOf d) events
  pub can : IsCourse limits c events

-- behind which the owner stands
abbrev pub GoesOn : Limits → Course → Deed → OwnerView → Type 0
GoesOn limits c d o = (happened : Happened limits c d) × StandsOn (course_after c happened.events) o

-- or whose journal the bytes stand for
abbrev pub LeavesCourse : Limits → List ℕ → Course → Deed → List ℕ → Type 0
LeavesCourse limits key c d bytes =
    (happened : Happened limits c d) × StandsForJournal key (course_after c happened.events).journal bytes

-- How an owner who stood on a course goes on behind a call, by its answer: one that met a fault of the disk is closed.
abbrev pub GoesOnAt : Result Reply ApplyFault → Course → Deed → OwnerView → OwnerView → Type 0
GoesOnAt (Err faults.DiskFault) c d old new = IsTrue new.journal.is_closed
GoesOnAt _ c d old new = GoesOn (limits_in old) c d new

-- Such an event hands the disk its batches, each as it is staged behind the log of its journal, as it is opened, and as it is
-- published; and nothing else. So each batch that the disk ever shows, and each part of one, is of a trial of which the laws speak.
abbrev pub HandsTrials : Limits → List ℕ → Course → Deed → Option (List ℕ) → Option (List ℕ) → (List ℕ → List ℕ → Type 0) → Type 0
HandsTrials limits key c d was shows since =
    (happened : Happened limits c d) × Hands (trial_writes key (trials c happened.events)) (Unit {0}) was shows since
