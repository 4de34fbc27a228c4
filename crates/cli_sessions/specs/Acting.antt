-- What the owner of a store does of lines, one after another, on whatever bytes it was opened. This project's own, docs/PROGRAM.md, "The
-- program".
use Rattle.std.specs.Prelude.{◌≡◌, ◌≢◌, ℕ, List, Option, Result, Ok, Err}
use Rattle.cry_base.specs.Requests.{Request}
use Rattle.cry_base.specs.declared.commands.Refusal.{Refusal}
use Rattle.cry_base.specs.declared.commands.Reply.{Reply}
use Rattle.cry_base.specs.declared.commands.Reply.TheVariants.{Refused}
use Rattle.cry_io.specs.Told.{WhereTold, WhereBothTold}
use Rattle.store_owner.specs.Acting.{Acts}
use Rattle.store_owner.specs.Deeds.Deed.{Commanded}
use Rattle.store_owner.specs.Owned.{OwnerView}
use Rattle.store_owner.specs.declared.apply_fault.ApplyFault.{ApplyFault}
use Rattle.store_owner.specs.declared.apply_fault.ApplyFault.TheVariants as faults
use Rattle.cli_base.specs.Lines.{InputLine}
use Rattle.cli_base.specs.declared.status.Status.{Status}
use Rattle.cli_sessions.specs.OwnerSteps.{StandsIn}
use Rattle.cli_sessions.specs.Script.{AskThese, PrintsReplies, Went, answered_in, lines_in}
use Rattle.cli_sessions.specs.Sessions.{ended_status}
use Rattle.cli_sessions.specs.declared.script.ScriptFault.{ScriptFault}

-- an owner, with the random bytes that are left and what the disk shows
pub record Place : Type 0 where
  pub owner : OwnerView
  pub left : Option (List ℕ)
  pub shown : Option (List ℕ)

abbrev pub place_of : OwnerView → Option (List ℕ) → Option (List ℕ) → Place
place_of owner left shown = record { owner = owner; left = left; shown = shown }

-- what the replacement of a holder stands for where the owner is
abbrev pub StandsAt : Place → ℕ → List Request → Type 0
StandsAt at n commands = StandsIn at.owner n commands

-- a command was answered so; one that is refused draws and writes nothing
pub record AnswersAt (before : Place) (request : Request) (reply : Reply) (after : Place) : Type 0 where
  pub acts : Acts (Ok reply) (Commanded request) before.owner after.owner before.left after.left before.shown after.shown
  pub kept : (why : Refusal) → reply ≡ Refused why → (after.left ≡ before.left) × (after.shown ≡ before.shown)

-- a command met this fault; only that of the disk changes what it shows, and without memory nothing is drawn. An
-- owner who may be asked is open
pub record FailsAt (before : Place) (request : Request) (fault : ApplyFault) (after : Place) : Type 0 where
  pub acts : Acts (Err fault) (Commanded request) before.owner after.owner before.left after.left before.shown after.shown
  pub unwritten : fault ≢ faults.DiskFault → after.shown ≡ before.shown
  pub undrawn : fault ≡ faults.OutOfMemory → after.left ≡ before.left
  pub never_closed : fault ≢ faults.Closed

-- How the owner went through lines: what was asked, line by line, and answered each time, by what the owner kept then; what that did; and
-- how the lines ended, of which so many were answered. These replies are what was printed.
pub record OwnerRan (status : Status) (asked : List Request) (answered : ℕ) (lines : List ℕ → List InputLine) (typed : Option (List ℕ))
    (start : Place) (left shown written_before written_after : Option (List ℕ)) : Type 0 where
  pub result : Result (Unit {0}) ScriptFault
  pub ends_so : status ≡ ended_status result
  pub becomes : OwnerView
  pub went : Went AnswersAt FailsAt StandsAt result start (place_of becomes left shown)
  pub asked_are : asked ≡ answered_in AnswersAt FailsAt StandsAt result start (place_of becomes left shown) went
  pub counted : answered ≡ lines_in AnswersAt FailsAt StandsAt result start (place_of becomes left shown) went
  pub asks : WhereTold typed (λ bytes. (rest : List InputLine) × AskThese went.tasks went.blocks went.asked (lines bytes) rest)
  pub printed : WhereBothTold written_before written_after (PrintsReplies result went.replies)
