-- How lines of `serve` went over some states is how they went over what each state becomes by a map, if this keeps what is said of a command
-- and of a read.
use Rattle.std.proofs.Common.{◌≡◌, ⊎_elim, inl, inr, ℕ, Bool, true, false, List, Option, Some, Result, Ok, Err, ◌<◌, ◌≤◌, arith, refl, subst}
use Rattle.cry_base.specs.Requests.{Request}
use Rattle.cry_base.specs.declared.commands.Reply.{Reply}
use Rattle.cry_io.specs.declared.disk.Disk as disk
use Rattle.log_visits.specs.declared.fault.ClientFault.TheVariants as client
use Rattle.read_steps.specs.Steps.{SessionView}
use Rattle.script_text.specs.Seats.{Turn}
use Rattle.script_text.specs.Tasks.{Task}
use Rattle.script_text.specs.Tasks.Task.{Does, Replaces}
use Rattle.store_owner.specs.Owned.{OwnerView}
use Rattle.store_owner.specs.declared.apply_fault.ApplyFault.{ApplyFault}
use Rattle.cli_sessions.specs.Script.{Answered, LineWent, Stands, StandsFor}
use Rattle.cli_sessions.specs.Script.Answered.{Begun, Then}
use Rattle.cli_sessions.specs.declared.script.ScriptFault.{ScriptFault}
use Rattle.cli_sessions.specs.declared.script.ScriptFault.TheVariants as script
use Rattle.cli_serving.specs.Seating.{SeatWent}
use Rattle.cli_serving.specs.Taking.{CountsReading}
use Rattle.cli_serving.specs.TurnAnswers.{OnlyReads}
use Rattle.cli_serving.specs.Turned.{NoTurn, OwnersTurn, SeatsTurn, Turned}
use Rattle.cli_serving.specs.Went.{AllDone, InOwners, InSeats, LineDone, SeatEnds, ServeWent}
use Rattle.cli_serving.specs.declared.serve_fault.ServeFault.{ServeFault}
use Rattle.cli_serving.specs.declared.serve_fault.ServeFault.TheVariants as serve
use Rattle.cli_serving.proofs.ReadOn.{Reads as ReadsSo, is_read}

module _ (X Y : Type 0) (f : X → Y) (Step : X → Request → Reply → X → Type 0) (Fails : X → Request → ApplyFault → X → Type 0) (Stand : X → ℕ → List Request → Type 0) (Reads : X → X → Type 0)
    (shown : X → Option (List ℕ)) (StepTo : Y → Request → Reply → Y → Type 0) (FailsTo : Y → Request → ApplyFault → Y → Type 0) (StandTo : Y → ℕ → List Request → Type 0) (ReadsTo : Y → Y → Type 0)
    (shown_to : Y → Option (List ℕ))
    (step : (x : X) (r : Request) (reply : Reply) (y : X) → Step x r reply y → StepTo (f x) r reply (f y))
    (fails : (x : X) (r : Request) (fault : ApplyFault) (y : X) → Fails x r fault y → FailsTo (f x) r fault (f y))
    (stand : (x : X) (n : ℕ) (commands : List Request) → Stand x n commands → StandTo (f x) n commands)
    (reads : (x y : X) → Reads x y → ReadsTo (f x) (f y)) (same : (x : X) → shown x ≡ shown_to (f x)) where
  answered_to : (start : X) (asked : List Request) (given : List Reply) (end : X) → Answered Step start asked given end → Answered StepTo (f start) asked given (f end)
  answered_to start asked given end Begun = Begun
  answered_to start asked given end (Then {asked = rs} {replies = told} {x = x} {y = y} {request = r} {reply = reply} before one) =
      Then (answered_to start rs told x before) (step x r reply y one)

  abbrev StandsTo : Result (Unit {0}) ScriptFault → X → List Request → List Reply → X → Type 0
  StandsTo result start asked given end = Stands StepTo FailsTo result (f start) asked given (f end)

  stands_to : (result : Result (Unit {0}) ScriptFault) (start : X) (asked : List Request) (given : List Reply) (end : X) → Stands Step Fails result start asked given end → StandsTo result start asked given end
  stands_to (Ok tt) start asked given end stands = answered_to start asked given end stands
  stands_to (Err (script.BadLine line)) start asked given end stands = answered_to start asked given end stands
  stands_to (Err script.ReadFault) start asked given end stands = answered_to start asked given end stands
  stands_to (Err script.WriteFault) start asked given end stands = answered_to start asked given end stands
  stands_to (Err script.OutOfMemory) start asked given end stands = answered_to start asked given end stands
  stands_to (Err (script.Applying fault)) start asked given end stands =
      (f stands.0, stands.1, stands.2, stands.3, answered_to start stands.1 given stands.0 stands.4, fails stands.0 stands.2 fault end stands.5)

  stands_for_to : (x : X) (task : Task) (commands : List Request) → StandsFor Stand x task commands → StandsFor StandTo (f x) task commands
  stands_for_to x (Does r) commands is = is
  stands_for_to x (Replaces n) commands is = (stand x n commands is.0, is.1)

  line_to : (cut : Bool) (result : Result (Unit {0}) ScriptFault) (start : X) (task : Task) (block : List Request) (given : List Reply) (end : X)
      → LineWent Step Fails Stand cut result start task block given end → LineWent StepTo FailsTo StandTo cut result (f start) task block given (f end)
  line_to cut result start task block given end went = record {
    commands = went.commands;
    stands_for = stands_for_to start task went.commands went.stands_for;
    asked = went.asked;
    some_asked = went.some_asked;
    stands = stands_to result start block given end went.stands;
  }

  -- all lines that were done
  turned_to : (start : X) (turns : List Turn) (asked : List Request) (text : List ℕ) (sessions : List SessionView) (x : X)
      → Turned (LineDone Step Fails Stand) Reads shown start turns asked text sessions x → Turned (LineDone StepTo FailsTo StandTo) ReadsTo shown_to (f start) turns asked text sessions (f x)
  turned_to start turns asked text sessions x NoTurn = NoTurn
  turned_to start turns asked text sessions x (OwnersTurn {turns = ts} {asked = rs} {text = printed} {sessions = ss} {x = w} {y = y} {task = task} {block = block} {replies = replies} before went) =
      OwnersTurn (turned_to start ts rs printed ss w before) (line_to false (Ok tt) w task block replies y went)
  turned_to start turns asked text sessions x (SeatsTurn {turns = ts} {asked = rs} {text = printed} {sessions = ss} {later = later} {x = w} {y = y} ask reply before went read) =
      SeatsTurn ask reply (turned_to start ts rs printed ss w before) (subst (λ (told : Option (List ℕ)). SeatWent told ask ss reply later) (same w) went) (reads w y read)

  -- and how they ended
  module _ (start end : X) (turns : List Turn) (asked : List Request) (before after : Option (List ℕ)) where
    abbrev all_to : AllDone Step Fails Stand Reads shown start end turns asked before after → AllDone StepTo FailsTo StandTo ReadsTo shown_to (f start) (f end) turns asked before after
    all_to done = record {
      text = done.text;
      sessions = done.sessions;
      turned = turned_to start turns asked done.text done.sessions end done.turned;
      printed = done.printed;
    }

    abbrev owners_to : (met : ScriptFault) → InOwners Step Fails Stand Reads shown met start end turns asked before after
        → InOwners StepTo FailsTo StandTo ReadsTo shown_to met (f start) (f end) turns asked before after
    owners_to met went = record {
      first = went.first;
      first_asked = went.first_asked;
      text = went.text;
      sessions = went.sessions;
      x = f went.x;
      turned = turned_to start went.first went.first_asked went.text went.sessions went.x went.turned;
      task = went.task;
      block = went.block;
      replies = went.replies;
      last = line_to true (Err met) went.x went.task went.block went.replies end went.last;
      turns_are = went.turns_are;
      asked_are = went.asked_are;
      printed = went.printed;
    }

    abbrev seats_to : (result : Result (Unit {0}) ServeFault) → InSeats Step Fails Stand Reads shown result start end turns asked before after
        → InSeats StepTo FailsTo StandTo ReadsTo shown_to result (f start) (f end) turns asked before after
    seats_to result went = record {
      first = went.first;
      text = went.text;
      sessions = went.sessions;
      x = f went.x;
      turned = turned_to start went.first asked went.text went.sessions went.x went.turned;
      ask = went.ask;
      ends = subst (λ (told : Option (List ℕ)). SeatEnds result told went.ask went.sessions went.text before after) (same went.x) went.ends;
      read = reads went.x end went.read;
      turns_are = went.turns_are;
    }

    pub went_mapped : (result : Result (Unit {0}) ServeFault) → ServeWent Step Fails Stand Reads shown result start end turns asked before after
        → ServeWent StepTo FailsTo StandTo ReadsTo shown_to result (f start) (f end) turns asked before after
    went_mapped (Ok tt) went = all_to went
    went_mapped (Err (serve.Reading met)) went = seats_to (Err (serve.Reading met)) went
    went_mapped (Err (serve.Script (script.BadLine line))) went = all_to went
    went_mapped (Err (serve.Script script.ReadFault)) went = all_to went
    went_mapped (Err (serve.Script script.WriteFault)) went =
        ⊎_elim (λ owners. inl (owners_to script.WriteFault owners)) (λ seats. inr (seats_to (Err (serve.Script script.WriteFault)) seats)) went
    went_mapped (Err (serve.Script script.OutOfMemory)) went =
        ⊎_elim (λ all. inl (all_to all))
        (λ last. inr (⊎_elim (λ owners. inl (owners_to script.OutOfMemory owners)) (λ seats. inr (seats_to (Err (serve.Script script.OutOfMemory)) seats)) last))
        went
    went_mapped (Err (serve.Script (script.Applying fault))) went = owners_to (script.Applying fault) went

    -- a fault of the disk in a session's reading is counted so over both
    pub counts_mapped : (faults : X → ℕ) (faults_to : Y → ℕ) → ((x : X) → faults x ≡ faults_to (f x)) → (result : Result (Unit {0}) ServeFault)
        → (went : ServeWent Step Fails Stand Reads shown result start end turns asked before after)
        → CountsReading Step Fails Stand Reads shown faults result start end turns asked before after went
        → CountsReading StepTo FailsTo StandTo ReadsTo shown_to faults_to result (f start) (f end) turns asked before after (went_mapped result went)
    unfolding went_mapped
    counts_mapped faults faults_to counts (Ok tt) went failed = tt
    counts_mapped faults faults_to counts (Err (serve.Reading client.NotAStore)) went failed = tt
    counts_mapped faults faults_to counts (Err (serve.Reading client.WrongKey)) went failed = tt
    counts_mapped faults faults_to counts (Err (serve.Reading (client.Damaged at))) went failed = tt
    counts_mapped faults faults_to counts (Err (serve.Reading (client.Tampered batch at))) went failed = tt
    counts_mapped faults faults_to counts (Err (serve.Reading (client.NoHolder known))) went failed = tt
    counts_mapped faults faults_to counts (Err (serve.Reading client.Unseen)) went failed = tt
    counts_mapped faults faults_to counts (Err (serve.Reading client.DiskFault)) went failed =
        let first = counts went.x in
        let last = counts end in
        (let rose : faults_to (f went.x) < faults_to (f end) = omega (arith, first, last, failed) in rose)
    counts_mapped faults faults_to counts (Err (serve.Reading client.OutOfMemory)) went failed = tt
    counts_mapped faults faults_to counts (Err (serve.Script (script.BadLine line))) went failed = tt
    counts_mapped faults faults_to counts (Err (serve.Script script.ReadFault)) went failed = tt
    counts_mapped faults faults_to counts (Err (serve.Script script.WriteFault)) went failed = tt
    counts_mapped faults faults_to counts (Err (serve.Script script.OutOfMemory)) went failed = tt
    counts_mapped faults faults_to counts (Err (serve.Script (script.Applying fault))) went failed = tt

-- ---- by the clauses of the calls

module _ (R D : Type 0) (left : R → Option (List ℕ)) (random_faults : R → ℕ) (disks : disk.Ghosts D)
    (only : (d : D) (s c : List ℕ) → disks.since d (disks.moment d) s c → (disks.shown d ≡ Some s) × disks.may_leave d c)
    (counted : (d : D) (t : ℕ) (s c : List ℕ) → t ≤ disks.moment d → disks.shown d ≡ Some s → disks.may_leave d c → disks.since d t s c)
    (Step : OwnerView × R × D → Request → Reply → OwnerView × R × D → Type 0) (Fails : OwnerView × R × D → Request → ApplyFault → OwnerView × R × D → Type 0)
    (Stand : OwnerView × R × D → ℕ → List Request → Type 0) (start end : OwnerView × R × D) (turns : List Turn) (asked : List Request) (before after : Option (List ℕ)) where
  abbrev X : Type 0
  X = OwnerView × R × D

  abbrev shows : X → Option (List ℕ)
  shows x = disks.shown x.2

  abbrev counts : X → ℕ
  counts x = disks.faults x.2

  abbrev Sees : X → X → Type 0
  Sees = ReadsSo R D left random_faults disks.shown disks.faults disks.may_leave disks.moment disks.since

  sees : (x y : X) → OnlyReads disks x y → Sees x y
  sees x y read = (read.owner, read.random, is_read R D left random_faults disks only counted x.2 y.2 read.disk read.counts)

  -- the disk was only read between the commands
  pub went_read : (result : Result (Unit {0}) ServeFault) → ServeWent Step Fails Stand (OnlyReads disks) shows result start end turns asked before after
      → ServeWent Step Fails Stand Sees shows result start end turns asked before after
  went_read result went =
      went_mapped X X (λ x. x) Step Fails Stand (OnlyReads disks) shows Step Fails Stand Sees shows (λ x r reply y step. step) (λ x r fault y failed. failed) (λ x n commands so. so) sees (λ x. refl)
      start end turns asked before after result went

  pub counts_read : (result : Result (Unit {0}) ServeFault) (went : ServeWent Step Fails Stand (OnlyReads disks) shows result start end turns asked before after)
      → CountsReading Step Fails Stand (OnlyReads disks) shows counts result start end turns asked before after went
      → CountsReading Step Fails Stand Sees shows counts result start end turns asked before after (went_read result went)
  unfolding went_read
  counts_read result went failed =
      counts_mapped X X (λ x. x) Step Fails Stand (OnlyReads disks) shows Step Fails Stand Sees shows (λ x r reply y step. step) (λ x r fault y failed. failed) (λ x n commands so. so) sees (λ x. refl)
      start end turns asked before after counts counts (λ x. refl) result went failed
