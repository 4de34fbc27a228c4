-- What the owner was asked of the lines of `serve`, however they end: commands one after another, with reads of the disk behind them; or a last
-- one that met a fault.
use Rattle.std.proofs.Common.{⊎_elim, ℕ, List, [], ◌++◌, Option, Result, Ok, Err, sym, subst}
use Rattle.cry_base.specs.Requests.{Request}
use Rattle.cry_base.specs.declared.commands.Reply.{Reply}
use Rattle.read_steps.specs.Steps.{SessionView}
use Rattle.script_text.specs.Seats.{Turn}
use Rattle.store_owner.specs.Owned.{OwnerView}
use Rattle.store_owner.specs.declared.apply_fault.ApplyFault.{ApplyFault}
use Rattle.cli_sessions.specs.Script.{Answered}
use Rattle.cli_sessions.specs.Script.Answered.{Begun}
use Rattle.cli_sessions.specs.declared.script.ScriptFault.{ScriptFault}
use Rattle.cli_sessions.specs.declared.script.ScriptFault.TheVariants as script
use Rattle.cli_sessions.proofs.RunLemmas.{Fails as FailsSo, IsCounted, IsPresent, Stand as StandSo, Step as StepSo}
use Rattle.cli_serving.specs.Turned.{NoTurn, OwnersTurn, SeatsTurn, Turned}
use Rattle.cli_serving.specs.Went.{AllDone, InOwners, InSeats, LineDone, ServeWent}
use Rattle.cli_serving.specs.declared.serve_fault.ServeFault.{ServeFault}
use Rattle.cli_serving.specs.declared.serve_fault.ServeFault.TheVariants as serve
use Rattle.cli_serving.proofs.ReadBetween.{answered_both, answered_then, commands_behind}
use Rattle.cli_serving.proofs.ReadOn.{Reads as ReadsSo, fault_on, read_nothing, reads_then, step_on}

module _ (X : Type 0) (Step : X → Request → Reply → X → Type 0) (Fails : X → Request → ApplyFault → X → Type 0) (Reads : X → X → Type 0) (start : X) where
  -- commands were answered one after another, and then the disk was only read
  pub record Rested (end : X) : Type 0 where
    pub asked : List Request
    pub given : List Reply
    pub z : X
    pub answered : Answered Step start asked given z
    pub read : Reads z end

  -- commands were answered one after another, and then one met a fault
  pub record Stopped (fault : ApplyFault) (end : X) : Type 0 where
    pub asked : List Request
    pub given : List Reply
    pub z : X
    pub answered : Answered Step start asked given z
    pub next : Request
    pub failed : Fails z next fault end

  abbrev pub EndsBy : Result (Unit {0}) ServeFault → X → Type 0
  EndsBy (Err (serve.Script (script.Applying fault))) end = Stopped fault end
  EndsBy _ end = Rested end

module _ (X : Type 0) (Step : X → Request → Reply → X → Type 0) (Fails : X → Request → ApplyFault → X → Type 0) (Stand : X → ℕ → List Request → Type 0) (Reads : X → X → Type 0)
    (shown : X → Option (List ℕ)) (nothing : (x : X) → Reads x x) (reads_on : (x y z : X) → Reads x y → Reads y z → Reads x z)
    (behind : (x z : X) → Reads x z → (request : Request) (reply : Reply) (y : X) → Step z request reply y → Step x request reply y)
    (fails_behind : (x z : X) → Reads x z → (request : Request) (fault : ApplyFault) (y : X) → Fails z request fault y → Fails x request fault y) (start : X) where
  abbrev Went : List Turn → List Request → List ℕ → List SessionView → X → Type 0
  Went turns asked text sessions x = Turned (LineDone Step Fails Stand) Reads shown start turns asked text sessions x

  -- lines that were all done
  pub turned_answered : (turns : List Turn) (asked : List Request) (text : List ℕ) (sessions : List SessionView) (x : X) → Went turns asked text sessions x
      → (given : List Reply) × (z : X) × Answered Step start asked given z × Reads z x
  turned_answered turns asked text sessions x NoTurn = ([], start, Begun, nothing start)
  turned_answered turns asked text sessions x (OwnersTurn {turns = ts} {asked = rs} {text = printed} {sessions = ss} {x = w} {y = y} {task = task} {block = block} {replies = replies} before went) =
      let so = turned_answered ts rs printed ss w before in
      (so.0 ++ replies, y, answered_then X Step Reads behind start so.1 w rs so.0 so.2 so.3 block replies y went.some_asked went.stands, nothing y)
  turned_answered turns asked text sessions x (SeatsTurn {turns = ts} {asked = rs} {text = printed} {sessions = ss} {later = later} {x = w} {y = y} ask reply before went read) =
      let so = turned_answered ts rs printed ss w before in
      (so.0, so.1, so.2, reads_on so.1 w y so.3 read)

  -- a fault behind reads: behind commands that came since, or behind those before them
  pub stop_behind : (asked : List Request) (given : List Reply) (z x : X) → Answered Step start asked given z → Reads z x
      → (first : List Request) (some : List Reply) (y : X) → Answered Step x first some y → (next : Request) (fault : ApplyFault) (end : X) → Fails y next fault end
      → (w : X) × Answered Step start (asked ++ first) (given ++ some) w × Fails w next fault end
  stop_behind asked given z x before reads first some y answered next fault end failed =
      ⊎_elim
      (λ none. (
        z,
        subst (λ (l : List Request). Answered Step start (asked ++ l) (given ++ some) z) (sym none.0)
            (subst (λ (l : List Reply). Answered Step start (asked ++ []) (given ++ l) z) (sym none.1) (answered_both X Step Reads behind start z asked given before [] [] z Begun)),
        fails_behind z x reads next fault end (subst (λ (s : X). Fails s next fault end) none.2 failed),
      ))
      (λ all. (y, answered_both X Step Reads behind start z asked given before first some y all, failed))
      (commands_behind X Step Reads behind z x reads first some y answered)

  module _ (end : X) (turns : List Turn) (asked : List Request) (before after : Option (List ℕ)) where
    all_done : AllDone Step Fails Stand Reads shown start end turns asked before after → Rested X Step Fails Reads start end
    all_done done =
        let so = turned_answered turns asked done.text done.sessions end done.turned in
        record { asked = asked; given = so.0; z = so.1; answered = so.2; read = so.3 }

    -- the last one is a session's
    in_seats : (result : Result (Unit {0}) ServeFault) → InSeats Step Fails Stand Reads shown result start end turns asked before after → Rested X Step Fails Reads start end
    in_seats result went =
        let so = turned_answered went.first asked went.text went.sessions went.x went.turned in
        record { asked = asked; given = so.0; z = so.1; answered = so.2; read = reads_on so.1 went.x end so.3 went.read }

    -- the last one is the owner's, and its commands were answered that were asked
    in_owners : (met : ScriptFault) (went : InOwners Step Fails Stand Reads shown met start end turns asked before after) → Answered Step went.x went.block went.replies end
        → Rested X Step Fails Reads start end
    in_owners met went answered =
        let so = turned_answered went.first went.first_asked went.text went.sessions went.x went.turned in
        record {
          asked = went.first_asked ++ went.block;
          given = so.0 ++ went.replies;
          z = end;
          answered = answered_then X Step Reads behind start so.1 went.x went.first_asked so.0 so.2 so.3 went.block went.replies end went.last.some_asked answered;
          read = nothing end;
        }

    -- or one of them met a fault
    owners_stop : (fault : ApplyFault) → InOwners Step Fails Stand Reads shown (script.Applying fault) start end turns asked before after → Stopped X Step Fails Reads start fault end
    owners_stop fault went =
        let so = turned_answered went.first went.first_asked went.text went.sessions went.x went.turned in
        let stands = went.last.stands in
        let stop = stop_behind went.first_asked so.0 so.1 went.x so.2 so.3 stands.1 went.replies stands.0 stands.4 stands.2 fault end stands.5 in
        record { asked = went.first_asked ++ stands.1; given = so.0 ++ went.replies; z = stop.0; answered = stop.1; next = stands.2; failed = stop.2 }

    pub ends_by : (result : Result (Unit {0}) ServeFault) → ServeWent Step Fails Stand Reads shown result start end turns asked before after → EndsBy X Step Fails Reads start result end
    ends_by (Ok tt) went = all_done went
    ends_by (Err (serve.Reading met)) went = in_seats (Err (serve.Reading met)) went
    ends_by (Err (serve.Script (script.BadLine line))) went = all_done went
    ends_by (Err (serve.Script script.ReadFault)) went = all_done went
    ends_by (Err (serve.Script script.WriteFault)) went =
        ⊎_elim (λ owners. in_owners script.WriteFault owners owners.last.stands) (λ seats. in_seats (Err (serve.Script script.WriteFault)) seats) went
    ends_by (Err (serve.Script script.OutOfMemory)) went =
        ⊎_elim (λ all. all_done all)
        (λ last. ⊎_elim (λ owners. in_owners script.OutOfMemory owners owners.last.stands) (λ seats. in_seats (Err (serve.Script script.OutOfMemory)) seats) last)
        went
    ends_by (Err (serve.Script (script.Applying fault))) went = owners_stop fault went

-- ---- an owner, a random source and a disk

module _ (R D : Type 0) (left : R → Option (List ℕ)) (random_faults : R → ℕ) (shown : D → Option (List ℕ)) (disk_faults : D → ℕ)
    (may_leave : D → List ℕ → Type 0) (moment : D → ℕ) (since : D → ℕ → List ℕ → List ℕ → Type 0) where
  abbrev pub Goes : OwnerView × R × D → Request → Reply → OwnerView × R × D → Type 0
  Goes = StepSo R D left random_faults shown disk_faults may_leave moment since

  abbrev pub Meets : OwnerView × R × D → Request → ApplyFault → OwnerView × R × D → Type 0
  Meets = FailsSo R D left random_faults shown disk_faults may_leave moment since

  abbrev pub Means : OwnerView × R × D → ℕ → List Request → Type 0
  Means = StandSo R D left random_faults shown disk_faults may_leave moment since

  abbrev pub Sees : OwnerView × R × D → OwnerView × R × D → Type 0
  Sees = ReadsSo R D left random_faults shown disk_faults may_leave moment since

  -- how the lines went
  abbrev pub WentSo : Result (Unit {0}) ServeFault → OwnerView × R × D → OwnerView × R × D → List Turn → List Request → Option (List ℕ) → Option (List ℕ) → Type 0
  WentSo result start end turns asked before after = ServeWent Goes Meets Means Sees (λ (x : OwnerView × R × D). shown x.2) result start end turns asked before after

  -- and what the owner did of them
  abbrev pub EndsSo : Result (Unit {0}) ServeFault → OwnerView × R × D → OwnerView × R × D → Type 0
  EndsSo result start end = EndsBy (OwnerView × R × D) Goes Meets Sees start result end

  -- lines that were all done
  pub turned_so : IsPresent R D left random_faults shown disk_faults may_leave moment since → IsCounted R D left random_faults shown disk_faults may_leave moment since
      → (start : OwnerView × R × D) (turns : List Turn) (asked : List Request) (text : List ℕ) (sessions : List SessionView) (x : OwnerView × R × D)
      → Turned (LineDone Goes Meets Means) Sees (λ (y : OwnerView × R × D). shown y.2) start turns asked text sessions x
      → (given : List Reply) × (z : OwnerView × R × D) × Answered Goes start asked given z × Sees z x
  turned_so present counted start turns asked text sessions x turned =
      turned_answered (OwnerView × R × D) Goes Meets Means Sees (λ (y : OwnerView × R × D). shown y.2)
      (read_nothing R D left random_faults shown disk_faults may_leave moment since present counted)
      (reads_then R D left random_faults shown disk_faults may_leave moment since present counted)
      (step_on R D left random_faults shown disk_faults may_leave moment since present counted)
      (fault_on R D left random_faults shown disk_faults may_leave moment since present counted)
      start turns asked text sessions x turned

  pub ended_by : IsPresent R D left random_faults shown disk_faults may_leave moment since → IsCounted R D left random_faults shown disk_faults may_leave moment since
      → (start end : OwnerView × R × D) (turns : List Turn) (asked : List Request) (before after : Option (List ℕ)) (result : Result (Unit {0}) ServeFault)
      → WentSo result start end turns asked before after → EndsSo result start end
  ended_by present counted start end turns asked before after result went =
      ends_by (OwnerView × R × D) Goes Meets Means Sees (λ (x : OwnerView × R × D). shown x.2)
      (read_nothing R D left random_faults shown disk_faults may_leave moment since present counted)
      (reads_then R D left random_faults shown disk_faults may_leave moment since present counted)
      (step_on R D left random_faults shown disk_faults may_leave moment since present counted)
      (fault_on R D left random_faults shown disk_faults may_leave moment since present counted)
      start end turns asked before after result went
