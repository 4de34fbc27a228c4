-- How the opening of a store ends, and where a session over it begins.
use Rattle.std.proofs.Common.{◌≡◌, ◌≤◌, ℕ, List, [], Option, None, Result, Ok, refl, ap, ◌∙◌}
use Rattle.std.specs.Prelude.{is_some}
use Rattle.commit_journal.specs.Moments.{OpensThroughout}
use Rattle.commit_journal.specs.declared.fault.OpenFault.{OpenFault}
use Rattle.commit_journal.specs.declared.fault.OpenFault.TheVariants as opening
use Rattle.cry_base.specs.Limits.{most_file_bytes, most_store_bytes}
use Rattle.cry_base.specs.declared.limits.Limits.{Limits}
use Rattle.cry_io.specs.Stops.{IsDurable}
use Rattle.cry_io.specs.Told.{WhereBothTold, WhereTold}
use Rattle.cry_io.specs.declared.disk.Disk as disk
use Rattle.journal_bytes.specs.Journals.{IsSettled, ShowsJournal}
use Rattle.journal_bytes.specs.Script.{opened}
use Rattle.cli_base.specs.declared.status.Status.{Status}
use Rattle.cli_base.specs.declared.status.Status.TheVariants as statuses
use Rattle.cli_sessions.specs.Opening.{Judges, WasOpened, open_status}
use Rattle.cli_sessions.specs.Sessions.{IsUnopened, Seen, version_limits}
use Rattle.log_visits.specs.Asking.{OpenStore, failure_of, opened_store, verdict}
use Rattle.log_visits.specs.Asking.Asking.{ToWrite}
use Rattle.log_visits.specs.Judging.{Failure}
use Rattle.public_fold.specs.Journal.{Journal}
use Rattle.store_owner.specs.Opened.{GoesOnBehind, IsFilled, IsFresh, IsOpenFault, OpensAs}
use Rattle.store_owner.specs.Owned.{IsOwnerOf, OwnerView}
use Rattle.store_owner.specs.Sessions.{StandsAt}

-- what is told where nothing was drawn or printed
abbrev pub seen_unopened : Option (List ℕ) → Option (List ℕ) → Option (List ℕ) → Option (List ℕ) → Seen
seen_unopened left was shown written = record { left_before = left; left_after = left; was = was; shown = shown; written_before = written; written_after = written }

pub unopened : (key : List ℕ) (m : Journal) (left was shown written : Option (List ℕ)) (KeepsTo : Journal → Type 0) → ShowsJournal key m shown → KeepsTo m
    → IsUnopened key m (seen_unopened left was shown written) KeepsTo
unopened key m left was shown written KeepsTo shows kept = record { undrawn = refl; shows_still = shows; unprinted = refl; kept = kept }

-- the bytes' verdict where the store isn't opened, and where it is
judged : (fault : OpenFault) (wanted : Result OpenStore Failure) → IsOpenFault fault wanted → Judges (open_status fault) (failure_of wanted)
unfolding failure_of
judged opening.NotAStore wanted is = ap failure_of is
judged opening.WrongKey wanted is = ap failure_of is
judged (opening.Damaged at) wanted is = ap failure_of is
judged (opening.Tampered batch at) wanted is = ap failure_of is
judged opening.DiskFault wanted is = tt
judged opening.OutOfMemory wanted is = tt

pub unopened_is_judged : (fault : OpenFault) (key image : List ℕ) → IsOpenFault fault (opened_store key image) → Judges (open_status fault) (verdict (ToWrite key) image)
unfolding verdict
unopened_is_judged fault key image is = judged fault (opened_store key image) is

pub opened_has_no_verdict : (key image : List ℕ) (s : OpenStore) → opened_store key image ≡ Ok s → verdict (ToWrite key) image ≡ None
unfolding verdict failure_of
opened_has_no_verdict key image s is = ap failure_of is

abbrev opens : OwnerView → Result OwnerView OpenFault
opens o = Ok o

-- an owner who opened a journal's store stands where a session begins
pub opened_stands : (key : List ℕ) (m : Journal) (o : OwnerView) (shown : Option (List ℕ)) (may_leave : List ℕ → Type 0) → IsOwnerOf m o
    → IsFresh key most_store_bytes most_file_bytes o → IsSettled key m shown may_leave → StandsAt version_limits key (opened m []) o shown
unfolding opened
opened_stands key m o shown may_leave is fresh settled = record {
  owner_is = is;
  has_key = fresh.same_key;
  has_limits = ap (λ n. let l : Limits = record { store_bytes = n; file_bytes = o.file_bytes } in l) fresh.limit ∙ ap (λ n. let l : Limits = record { store_bytes = most_store_bytes; file_bytes = n } in l) fresh.bound;
  has_begun = fresh.not_begun;
  disk_stands = (settled.shows.0, settled.shows.1, settled.shows.2.stands);
}

-- what the opening says of a store that was opened
pub was_opened : {D : Type 0} (disks : disk.Ghosts D) (key : List ℕ) (o : OwnerView) (old new : D)
    → (most_store_bytes ≡ most_store_bytes → WhereTold (disks.shown old) (λ s. OpensAs (opens o) (opened_store key s)))
    → WhereTold (disks.shown old) (GoesOnBehind most_store_bytes key o) → IsFresh key most_store_bytes most_file_bytes o → is_some (disks.shown new) ≡ is_some (disks.shown old)
    → disks.size_of new ≡ disks.size_of old → disks.moment old ≤ disks.moment new
    → OpensThroughout most_store_bytes key (disks.shown old) (disks.may_leave old) (disks.since new (disks.moment old))
    → WhereBothTold (disks.shown old) (disks.shown new) (IsFilled most_store_bytes key) → IsDurable (disks.may_leave new) (disks.shown new) → WasOpened disks key o old new
was_opened disks key o old new opened behind fresh told size later throughout filled settled = record {
  passes = λ s is. let opens = opened refl s is in opened_has_no_verdict key s opens.0 opens.1;
  keeps = opened refl;
  behind = behind;
  fresh = fresh;
  told = told;
  size = size;
  later = later;
  throughout = throughout;
  filled = filled;
  settled = settled;
}

-- what holds of each answer to a store that isn't opened
pub each_unopened : (P : Status → Type 0) → P statuses.NotAStore → P statuses.WrongKey → ((at : ℕ) → P (statuses.Damaged at))
    → ((batch at : ℕ) → P (statuses.Tampered batch at)) → P statuses.DiskFault → P statuses.OutOfMemory → (fault : OpenFault) → P (open_status fault)
each_unopened P store wrong damaged tampered disk memory opening.NotAStore = store
each_unopened P store wrong damaged tampered disk memory opening.WrongKey = wrong
each_unopened P store wrong damaged tampered disk memory (opening.Damaged at) = damaged at
each_unopened P store wrong damaged tampered disk memory (opening.Tampered batch at) = tampered batch at
each_unopened P store wrong damaged tampered disk memory opening.DiskFault = disk
each_unopened P store wrong damaged tampered disk memory opening.OutOfMemory = memory
