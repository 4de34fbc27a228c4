-- Runs and upgrades of one writer, each under a head that the writer took behind the one before. This project's own, docs/MODEL.md.
--
-- An upgrade is told with the runs, as one of them, and so is a call of `serve`, before which the writer tested the head by another call.
-- Each run may be handed another disk, also one with an older copy of the store, or with what others wrote: the disks have nothing to do
-- with one another. A run is told by what `run` promises, and an upgrade by what `upgrade` does, over a disk that shows a journal of the
-- writer's key and has nothing pending. A head was held over what it shows, before the store was opened. The log that this head names
-- begins with the log that the head before named, and with the log that the run before left: so it is where the run printed its head, and
-- where `check` accepts that another head goes on from there. A run that was stopped, or met a fault of the disk, left what a stop might
-- leave then; the next opening for writing fills the slots of that, and so they are filled here.
use Rattle.std.specs.Prelude.{◌≡◌, ◌≢◌, ◌⊎◌, ◌+◌, ℕ, List, [], ◌∷◌, ◌++◌, map, take, Some, Result, Ok}
use Rattle.std.specs.List.{flat_map}
use Rattle.chacha_seal.specs.Sealing.{veil_of}
use Rattle.commit_journal.specs.Answering.{Fault}
use Rattle.commit_journal.specs.Handing.{Hands, all_written, opening_writes}
use Rattle.commit_journal.specs.Image.{empty_slot}
use Rattle.cry_base.specs.Limits.{most_store_bytes}
use Rattle.cry_io.specs.Stops.{IsDurable}
use Rattle.cry_io.specs.declared.disk.Disk as disk
use Rattle.head_tree.specs.Hashing.{texts_of}
use Rattle.head_tree.specs.Heads.{Collision, IsHeadOf, IsPrefix}
use Rattle.head_tree.specs.declared.head.Head.{Head}
use Rattle.log_heads.specs.Published.{hashes_in, leaves_in}
use Rattle.public_fold.specs.Journal.{Entry, Journal}
use Rattle.journal_bytes.specs.Journals.{StandsForJournal}
use Rattle.attempt_laws.specs.Spent.{Differ, all_spenders, number_of}
use Rattle.attempt_laws.specs.Trials.{MaskOnePayload, Trial, attempt_of, trial_writes}
use Rattle.cli_heads.specs.Testing.{IsHeld}
use Rattle.stop_laws.specs.Runs.{RunOver, ServeOver, UpgradeOver}

-- a run, a call of `serve` or an upgrade under a head, what it found, and what it left
pub record HeldRun {D : Type 0} (disks : disk.Ghosts D) (key : List ℕ) : Type 0 where
  pub before : D
  pub after : D
  pub call : RunOver disks key before after ⊎ (ServeOver disks key before after ⊎ UpgradeOver disks key before after)
  -- what it was handed
  pub image : List ℕ
  pub shows : disks.shown before ≡ Some image
  pub calm : IsDurable (disks.may_leave before) (disks.shown before)
  pub found : Journal
  pub stands_for : StandsForJournal key found image
  -- the head that was held over it, and the log that this head names
  pub head : Head
  pub held : IsHeld head (hashes_in image)
  pub named : List (List ℕ)
  pub names : IsHeadOf head named
  -- what the disk shows in the end, or a stop leaves then
  pub left : List ℕ
  pub leaves : disks.may_leave after left

-- a run under this head, over this image, that left this
abbrev pub IsRunUnder : {D : Type 0} (disks : disk.Ghosts D) (key : List ℕ) → Head → List (List ℕ) → List ℕ → List ℕ → Type 0
IsRunUnder disks key head named image left = (run : HeldRun disks key) × (run.head ≡ head) × (run.named ≡ named) × (run.image ≡ image)
    × (run.left ≡ left)

-- the log of what was left, once the slots are filled that were left empty
unfoldable pub log_left : List ℕ → List ℕ → Result (List (List ℕ)) Fault
log_left key bytes = leaves_in (all_written (opening_writes most_store_bytes key bytes) bytes)

-- the head of the next run was taken behind this one: what it names begins with what this one's head names, and with what this one left
pub record IsTakenBehind {D : Type 0} (disks : disk.Ghosts D) (key : List ℕ) (run next : HeldRun disks key) : Type 0 where
  pub longer : IsPrefix run.named next.named
  pub has_left : (log : List (List ℕ)) → log_left key run.left ≡ Ok log → IsPrefix log next.named

-- and so for each run and the one behind it
abbrev pub AreHeld : {D : Type 0} (disks : disk.Ghosts D) (key : List ℕ) → List (HeldRun disks key) → Type 0
AreHeld disks key [] = Unit {0}
AreHeld disks key (run ∷ []) = Unit {0}
AreHeld disks key (run ∷ next ∷ runs) = IsTakenBehind disks key run next × AreHeld disks key (next ∷ runs)

-- the trials of the entries that follow a journal, each behind those before it
unfoldable pub trials_behind : Journal → List Entry → List Trial
trials_behind m [] = []
trials_behind m (entry ∷ entries) = record { behind = m; entry = entry } ∷ trials_behind (m ++ entry ∷ []) entries

-- What a run tried: it handed its disk the veil keys of slots that a stop had left empty, and the batches of these trials behind the
-- journal that it found, each as it is staged, opened and published; and nothing else. A fault may have torn the last of these writes.
pub record IsTried {D : Type 0} (disks : disk.Ghosts D) (key : List ℕ) (run : HeldRun disks key) (tried : List Trial) : Type 0 where
  pub entries : List Entry
  pub behind : tried ≡ trials_behind run.found entries
  pub hands : Hands (opening_writes most_store_bytes key run.image ++ trial_writes key tried) (Unit {0}) (disks.shown run.before)
      (disks.shown run.after) (disks.since run.after (disks.moment run.before))

-- what each of the runs tried
abbrev pub AreTried : {D : Type 0} (disks : disk.Ghosts D) (key : List ℕ) → List (HeldRun disks key) → List (List Trial) → Type 0
AreTried disks key [] [] = Unit {0}
AreTried disks key [] (tried ∷ all) = ⊥
AreTried disks key (run ∷ runs) [] = ⊥
AreTried disks key (run ∷ runs) (tried ∷ all) = IsTried disks key run tried × AreTried disks key runs all

-- no two keys or records of all that the runs tried have one number, and two batches with the veil key of one epoch and one number have one
-- payload, before it is masked and then
abbrev pub SpendOnce : {D : Type 0} (disks : disk.Ghosts D) (key : List ℕ) → List (HeldRun disks key) → Type 0
SpendOnce disks key runs = (all : List (List Trial)) × AreTried disks key runs all
    × Differ number_of (all_spenders (map attempt_of (flat_map (λ tried. tried) all)))
    × MaskOnePayload key (flat_map (λ tried. tried) all)

-- two different texts have one SHA-256 value, among those that are hashed for the log that a run's head names and for the first batches
-- of the log over which it was held
abbrev pub Collides : {D : Type 0} (disks : disk.Ghosts D) (key : List ℕ) → HeldRun disks key → Type 0
Collides disks key run = (log : List (List ℕ)) × (leaves_in run.image ≡ Ok log)
    × Collision (texts_of run.named ++ texts_of (take (run.head.batches + 1) log))

-- no veil key that this owner's key makes is the empty slot itself
abbrev pub MakesNoEmptyVeil : List ℕ → Type 0
MakesNoEmptyVeil key = (epoch number : ℕ) → veil_of key epoch number ≢ empty_slot
