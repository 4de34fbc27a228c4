-- What a command answers that only reads a store. This project's own, docs/FORMAT.md, "Reading", and docs/PROGRAM.md, "The program".
use Rattle.std.specs.Prelude.{◌≡◌, ℕ, List, [], ◌++◌, Option, Result, Ok, Err}
use Rattle.cry_base.specs.Listed.{Listed}
use Rattle.cry_base.specs.declared.client.Bundle.{Bundle}
use Rattle.cry_io.specs.Reading.{IsOnlyRead}
use Rattle.cry_io.specs.Told.{WhereTold, WhereBothTold}
use Rattle.cry_io.specs.declared.disk.Disk as disk
use Rattle.log_visits.specs.declared.fault.ClientFault.{ClientFault}
use Rattle.log_visits.specs.Judging.{Failure}
use Rattle.trail_audit.specs.Derived.{IsToldOf}
pub use Rattle.cli_base.specs.Answering.{AnswersAs, IsExactly}
use Rattle.cli_base.specs.declared.status.Status.{Status}
use Rattle.cli_base.specs.declared.status.Status.TheVariants as statuses
pub use Rattle.cli_base.specs.Input.{InputDecides}
use Rattle.cli_base.specs.Input.{IsUnjudged, TakesLines, input_answer}
use Rattle.cli_heads.specs.Statuses.{EndsAs}
use Rattle.cli_reading.specs.Statuses.{failure_status}

-- ---- what may be answered: a text that is printed, or how the program ends

-- what is wanted, as it is spelled, or how the program ends
abbrev pub answer_as : {X : Type 0} → (X → List ℕ) → Result X Failure → Result (List ℕ) Status
answer_as spell (Ok shown) = Ok (spell shown)
answer_as spell (Err failure) = Err (failure_status failure)

-- what may be answered for the bundle that an input hands in, if no line of it is bad
abbrev pub AnswersFor : (Bundle → Result (List ℕ) Status → Type 0) → Result Bundle ℕ → Result (List ℕ) Status → Type 0
AnswersFor Gives (Ok bundle) = Gives bundle
AnswersFor Gives (Err line) = IsExactly (Err (statuses.BadScript line))

-- what is answered to an input and an image: the input first, then the log, then its records
abbrev pub AnswersBy : (Bundle → List ℕ → Result (List ℕ) Status → Type 0) → List ℕ → List ℕ → Result (List ℕ) Status → Type 0
AnswersBy Gives typed image = AnswersFor (λ bundle. Gives bundle image) (input_answer typed)

-- ---- what the answers have to do with what was wanted

-- the text is one that may be answered, or so it may end. A disk that fails and want of memory may come at any time
abbrev pub GivesText : Result (Listed ℕ) ClientFault → (Result (List ℕ) Status → Type 0) → Type 0
GivesText (Ok text) May = May (Ok text.items)
GivesText (Err fault) May = IsToldOf (λ failure. May (Err (failure_status failure))) fault

-- so with a status in the fault's place
abbrev pub TellsText : Result (Listed ℕ) Status → (Result (List ℕ) Status → Type 0) → Type 0
TellsText (Ok text) May = May (Ok text.items)
TellsText (Err status) May = EndsAs (λ s. May (Err s)) status

-- what was taken of the input: all of it at Done; no bad line before the source failed; else little behind the line at which the call
-- ended, which is the bundle's where the store was read
abbrev pub TakesInput : Status → List ℕ → List ℕ → Type 0
TakesInput statuses.Done typed left = left ≡ []
TakesInput statuses.ReadFault typed left = (given : List ℕ) × (typed ≡ given ++ left) × IsUnjudged given
TakesInput statuses.OutOfMemory typed left = Unit {0}
TakesInput (statuses.BadScript line) typed left = TakesLines line typed left
TakesInput _ typed left = TakesLines 1 typed left

-- What such a command does: it answers and prints what is said of its input and of what the disk shows, and only reads the disk.
pub record Reads {D : Type 0} (Gives : Bundle → List ℕ → Result (List ℕ) Status → Type 0) (disks : disk.Ghosts D) (status : Status)
    (typed left : Option (List ℕ)) (disk_old disk_new : D) (before after : Option (List ℕ)) : Type 0 where
  pub decided : WhereTold typed (λ bytes. InputDecides status (input_answer bytes))
  pub answered : WhereTold typed (λ bytes. WhereTold (disks.shown disk_old) (λ image.
      AnswersAs status (AnswersBy Gives bytes image) before after))
  pub takes : WhereBothTold typed left (TakesInput status)
  pub reads_only : IsOnlyRead disks disk_old disk_new
