-- Where no line of `serve` is the owner's, they only read the disk, and nothing is drawn.
use Rattle.std.proofs.Common.{⊎_elim, inl, inr, ℕ, List, [], ◌∷◌, ◌++◌, Option, Result, Ok, Err, arith, refl, subst, ◌∙◌}
use Rattle.cry_base.specs.Requests.{Request}
use Rattle.cry_base.specs.declared.commands.Reply.{Reply}
use Rattle.cry_base.proofs.Members.{In-append}
use Rattle.cry_io.specs.declared.disk.Disk as disk
use Rattle.cry_io.proofs.OnlyRead.{only_read_still, only_read_twice}
use Rattle.read_steps.specs.Steps.{SessionView}
use Rattle.script_text.specs.Seats.{Turn}
use Rattle.script_text.specs.Seats.Turn.{ToOwner, ToSeat}
use Rattle.script_text.specs.Tasks.{Task}
use Rattle.store_owner.specs.declared.apply_fault.ApplyFault.{ApplyFault}
use Rattle.cli_sessions.specs.declared.script.ScriptFault.{ScriptFault}
use Rattle.cli_sessions.specs.declared.script.ScriptFault.TheVariants as script
use Rattle.cli_serving.specs.Lines.{AskNoOwner}
use Rattle.cli_serving.specs.TurnAnswers.{OnlyReads}
use Rattle.cli_serving.specs.Turned.{NoTurn, OwnersTurn, SeatsTurn, Turned}
use Rattle.cli_serving.specs.Went.{AllDone, InOwners, InSeats, LineDone, ServeWent}
use Rattle.cli_serving.specs.declared.serve_fault.ServeFault.{ServeFault}
use Rattle.cli_serving.specs.declared.serve_fault.ServeFault.TheVariants as serve

-- the lines before the last one are no owner's either
none_before : (turns : List Turn) (last : Turn) → AskNoOwner (turns ++ last ∷ []) → AskNoOwner turns
none_before turns last none = λ task asks. none task ((In-append Turn (ToOwner task) turns (last ∷ [])).1 (inl asks))

-- and the last one isn't
not_last : (turns : List Turn) (task : Task) → AskNoOwner (turns ++ ToOwner task ∷ []) → ⊥
not_last turns task none = none task ((In-append Turn (ToOwner task) turns (ToOwner task ∷ [])).1 (inr (inl refl)))

module _ (X : Type 0) (Step : X → Request → Reply → X → Type 0) (Fails : X → Request → ApplyFault → X → Type 0) (Stand : X → ℕ → List Request → Type 0) (Reads : X → X → Type 0)
    (shown : X → Option (List ℕ)) (nothing : (x : X) → Reads x x) (reads_on : (x y z : X) → Reads x y → Reads y z → Reads x z) (start : X) where
  -- lines that were all done
  turned_read : (turns : List Turn) (asked : List Request) (text : List ℕ) (sessions : List SessionView) (x : X)
      → Turned (LineDone Step Fails Stand) Reads shown start turns asked text sessions x → AskNoOwner turns → Reads start x
  turned_read turns asked text sessions x NoTurn none = nothing start
  turned_read turns asked text sessions x (OwnersTurn {turns = ts} {task = task} before went) none = absurd (not_last ts task none)
  turned_read turns asked text sessions x (SeatsTurn {turns = ts} {asked = rs} {text = printed} {sessions = ss} {x = w} {y = y} ask reply before went read) none =
      reads_on start w y (turned_read ts rs printed ss w before (none_before ts (ToSeat ask) none)) read

  module _ (end : X) (turns : List Turn) (asked : List Request) (before after : Option (List ℕ)) (none : AskNoOwner turns) where
    all_read : AllDone Step Fails Stand Reads shown start end turns asked before after → Reads start end
    all_read done = turned_read turns asked done.text done.sessions end done.turned none

    owners_none : (met : ScriptFault) → InOwners Step Fails Stand Reads shown met start end turns asked before after → Reads start end
    owners_none met went = absurd (not_last went.first went.task (subst AskNoOwner went.turns_are none))

    seats_read : (result : Result (Unit {0}) ServeFault) → InSeats Step Fails Stand Reads shown result start end turns asked before after → Reads start end
    seats_read result went =
        let first = none_before went.first (ToSeat went.ask) (subst AskNoOwner went.turns_are none) in
        reads_on start went.x end (turned_read went.first asked went.text went.sessions went.x went.turned first) went.read

    -- however they end
    went_only : (result : Result (Unit {0}) ServeFault) → ServeWent Step Fails Stand Reads shown result start end turns asked before after → Reads start end
    went_only (Ok tt) went = all_read went
    went_only (Err (serve.Reading met)) went = seats_read (Err (serve.Reading met)) went
    went_only (Err (serve.Script (script.BadLine line))) went = all_read went
    went_only (Err (serve.Script script.ReadFault)) went = all_read went
    went_only (Err (serve.Script script.WriteFault)) went = ⊎_elim (λ owners. owners_none script.WriteFault owners) (λ seats. seats_read (Err (serve.Script script.WriteFault)) seats) went
    went_only (Err (serve.Script script.OutOfMemory)) went =
        ⊎_elim (λ all. all_read all)
        (λ last. ⊎_elim (λ owners. owners_none script.OutOfMemory owners) (λ seats. seats_read (Err (serve.Script script.OutOfMemory)) seats) last)
        went
    went_only (Err (serve.Script (script.Applying fault))) went = owners_none (script.Applying fault) went

-- ---- an owner, a random source and a disk

module _ (O R D : Type 0) (disks : disk.Ghosts D) where
  still : (x : O × R × D) → OnlyReads disks x x
  still x = record { owner = refl; random = refl; disk = only_read_still disks x.2; counts = omega arith }

  twice : (x y z : O × R × D) → OnlyReads disks x y → OnlyReads disks y z → OnlyReads disks x z
  twice x y z first second = record {
    owner = second.owner ∙ first.owner;
    random = second.random ∙ first.random;
    disk = only_read_twice disks x.2 y.2 z.2 first.disk second.disk;
    counts = let one = first.counts in let two = second.counts in omega (arith, one, two);
  }

  pub lines_only_read : (Step : O × R × D → Request → Reply → O × R × D → Type 0) (Fails : O × R × D → Request → ApplyFault → O × R × D → Type 0)
      (Stand : O × R × D → ℕ → List Request → Type 0) (shown : O × R × D → Option (List ℕ)) (start end : O × R × D)
      (turns : List Turn) (asked : List Request) (before after : Option (List ℕ)) (result : Result (Unit {0}) ServeFault)
      → ServeWent Step Fails Stand (OnlyReads disks) shown result start end turns asked before after → AskNoOwner turns → OnlyReads disks start end
  lines_only_read Step Fails Stand shown start end turns asked before after result went none =
      went_only (O × R × D) Step Fails Stand (OnlyReads disks) shown still twice start end turns asked before after none result went
