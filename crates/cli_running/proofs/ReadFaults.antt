-- What was taken of an input that failed: whole lines that were asked, and the front of one that had not ended.
use Rattle.std.proofs.Common.{◌≡◌, ◌≤◌, inl, inr, ℕ, List, [], ◌++◌, length, Option, Result, Err, refl, sym, ap, subst, ◌∙◌}
use Rattle.cry_base.specs.Requests.{Request}
use Rattle.cry_base.specs.declared.commands.Reply.{Reply}
use Rattle.cry_io.specs.Told.{WhereBothTold}
use Rattle.cli_base.specs.Lines.{InputLine, IsUnended, LineState, bytes_ahead, lines_ahead, lines_of}
use Rattle.cli_running.specs.Running.{AsksLines, ReadsWhole, ReadsWholeTyped, lines_typed}
use Rattle.cli_sessions.specs.Opening.{open_status}
use Rattle.cli_sessions.specs.Sessions.{script_status}
use Rattle.cli_sessions.specs.Script.{Ran, answered_in, lines_in}
use Rattle.cli_sessions.specs.Taking.{AreTaken, TakesNothing, TakesOne}
use Rattle.cli_sessions.specs.declared.script.ScriptFault.{ScriptFault}
use Rattle.cli_sessions.specs.declared.script.ScriptFault.TheVariants.{BadLine, ReadFault, WriteFault, OutOfMemory, Applying}
use Rattle.cli_base.specs.declared.status.Status.TheVariants as statuses
use Rattle.cli_base.proofs.InputLemmas.{fresh_reader}
use Rattle.cli_running.proofs.LinesRun.{these_counted}
use Rattle.commit_journal.specs.declared.fault.OpenFault.{OpenFault}
use Rattle.commit_journal.specs.declared.fault.OpenFault.TheVariants as opening
use Rattle.store_owner.specs.declared.apply_fault.ApplyFault.{ApplyFault}
use Rattle.store_owner.specs.declared.apply_fault.ApplyFault.TheVariants as faults

-- what is held of a line that hasn't ended stands before what is left
pub unended_lines : (state : LineState) (left : List ℕ) → IsUnended state → lines_ahead state left ≡ lines_of state.room (state.line ++ left)
unended_lines state left unended = ap (λ (p : List ℕ). lines_of state.room (state.line ++ (p ++ left))) unended.all

pub unended_bytes : (state : LineState) (left : List ℕ) → IsUnended state → bytes_ahead state left ≡ state.line ++ left
unended_bytes state left unended = ap (λ (p : List ℕ). state.line ++ (p ++ left)) unended.all

module _ {X : Type 0} (Step : X → Request → Reply → X → Type 0) (Fails : X → Request → ApplyFault → X → Type 0) (Stand : X → ℕ → List Request → Type 0) (start end : X)
    (old new : LineState) (left_before left_after out_before out_after : Option (List ℕ)) where
  abbrev HasRan : Result (Unit {0}) ScriptFault → Type 0
  HasRan result = Ran Step Fails Stand result start end old new left_before left_after out_before out_after

  abbrev ReadsAll : List Request → ℕ → Type 0
  ReadsAll asked number = WhereBothTold left_before left_after (λ before after. ReadsWhole asked number (lines_ahead old before) (bytes_ahead old before) after)

  pub cut_lines : (fault : ScriptFault) (ran : HasRan (Err fault)) → (fault ≡ ReadFault → IsUnended new) → script_status fault ≡ statuses.ReadFault
      → ReadsAll (answered_in Step Fails Stand (Err fault) start end ran.went) (lines_in Step Fails Stand (Err fault) start end ran.went)
  cut_lines ReadFault ran unended is = λ b a was now.
      let front = unended refl in
      let given = ran.taken b a was now in
      let went = ran.went in
      record {
        given = given.0;
        front = new.line;
        room = new.room;
        taken = given.2 ∙ ap (λ rest. given.0 ++ rest) (unended_bytes new a front);
        of_lines = given.1;
        one = front.one;
        within = front.within;
        asks = subst (λ (rest : List InputLine). AsksLines went.asked (length went.tasks) (lines_ahead old b) rest) (unended_lines new a front)
            (these_counted went.tasks went.blocks went.asked (lines_ahead old b) (lines_ahead new a) (ran.lines b a was now));
      }
  cut_lines (BadLine line) ran unended is = absurd cc
  cut_lines WriteFault ran unended is = absurd cc
  cut_lines OutOfMemory ran unended is = absurd cc
  cut_lines (Applying faults.RandomFault) ran unended is = absurd cc
  cut_lines (Applying (faults.RandomShort given need)) ran unended is = absurd cc
  cut_lines (Applying faults.DiskFault) ran unended is = absurd cc
  cut_lines (Applying faults.Closed) ran unended is = absurd cc
  cut_lines (Applying faults.OutOfMemory) ran unended is = absurd cc

-- the first line, of which nothing was given
pub cut_first : (fault : ScriptFault) (reader new : LineState) (typed left : List ℕ) → reader ≡ fresh_reader → TakesOne {U = List ℕ} (Err fault) reader new typed left
    → (fault ≡ ReadFault → IsUnended new) → script_status fault ≡ statuses.ReadFault → ReadsWholeTyped [] 0 typed left
cut_first ReadFault reader new typed left fresh takes unended is =
    let front = unended refl in
    let none : TakesNothing fresh_reader new typed left = subst (λ (r : LineState). TakesNothing r new typed left) fresh takes in
    inl (refl, refl, new.line, front.one, subst (λ room. length new.line ≤ room) none.1 front.within, sym none.0 ∙ unended_bytes new left front)
cut_first (BadLine line) reader new typed left fresh takes unended is = absurd cc
cut_first WriteFault reader new typed left fresh takes unended is = absurd cc
cut_first OutOfMemory reader new typed left fresh takes unended is = absurd cc
cut_first (Applying faults.RandomFault) reader new typed left fresh takes unended is = absurd cc
cut_first (Applying (faults.RandomShort given need)) reader new typed left fresh takes unended is = absurd cc
cut_first (Applying faults.DiskFault) reader new typed left fresh takes unended is = absurd cc
cut_first (Applying faults.Closed) reader new typed left fresh takes unended is = absurd cc
cut_first (Applying faults.OutOfMemory) reader new typed left fresh takes unended is = absurd cc

-- the lines behind the first, of which one was taken
pub cut_behind : (asked : List Request) (number : ℕ) (held : LineState) (typed middle left : List ℕ) → AreTaken 1 fresh_reader held typed middle → lines_ahead held middle ≡ lines_typed typed
    → ReadsWhole asked number (lines_ahead held middle) (bytes_ahead held middle) left → ReadsWholeTyped asked number typed left
cut_behind asked number held typed middle left first behind reads =
    inr (first.0, bytes_ahead held middle, first.1, first.2, subst (λ (lines : List InputLine). ReadsWhole asked number lines (bytes_ahead held middle) left) behind reads)

pub unopened_reads_none : {P : Type 0} (fault : OpenFault) → open_status fault ≡ statuses.ReadFault → P
unopened_reads_none opening.NotAStore is = absurd cc
unopened_reads_none opening.WrongKey is = absurd cc
unopened_reads_none (opening.Damaged at) is = absurd cc
unopened_reads_none (opening.Tampered batch at) is = absurd cc
unopened_reads_none opening.DiskFault is = absurd cc
unopened_reads_none opening.OutOfMemory is = absurd cc
