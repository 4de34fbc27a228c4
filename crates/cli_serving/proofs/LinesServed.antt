-- What `serve` takes of its lines and how it ends then, whatever the disk shows.
use Rattle.std.proofs.Common.{◌≡◌, ◌≢◌, ◌⊎◌, ◌<◌, ◌≤◌, inl, inr, ℕ, ◌+◌, ◌++◌, List, [], ◌∷◌, length, map, Option, Some, None, Result, Ok, Err, false, IsTrue, arith, refl, sym, ap, subst, ◌∙◌, length-append}
use Rattle.std.proofs.lemmas.Bool.{false≢true, ne_eqb}
use Rattle.std.proofs.lemmas.List.{append-nil}
use Rattle.commit_journal.specs.declared.fault.OpenFault.{OpenFault}
use Rattle.commit_journal.specs.declared.fault.OpenFault.TheVariants as opening
use Rattle.cry_base.specs.Requests.{Request}
use Rattle.cry_base.specs.declared.commands.Reply.{Reply}
use Rattle.log_visits.specs.Answering.{IsOfBytes}
use Rattle.log_visits.specs.declared.fault.ClientFault.{ClientFault}
use Rattle.log_visits.specs.declared.fault.ClientFault.TheVariants as client
use Rattle.read_steps.specs.Steps.{SessionView}
use Rattle.script_text.specs.Seats.{SeatAsk, Turn, turn_in}
use Rattle.script_text.specs.Seats.SeatAsk.{Begins, Pins, Shows, Steps}
use Rattle.script_text.specs.Seats.Turn.{ToSeat}
use Rattle.store_owner.specs.declared.apply_fault.ApplyFault.{ApplyFault}
use Rattle.store_owner.specs.declared.apply_fault.ApplyFault.TheVariants as faults
use Rattle.cli_base.specs.Reading.{reading_status}
use Rattle.cli_base.specs.Input.{TakesLines}
use Rattle.cli_base.specs.Lines.{InputLine, IsUnended, LineState, bytes_ahead, lines_ahead}
use Rattle.cli_base.specs.Lines.InputLine.{TooLong, Whole}
use Rattle.cli_base.specs.declared.status.Status.{Status}
use Rattle.cli_base.specs.declared.status.Status.TheVariants as statuses
use Rattle.cli_base.proofs.InputLemmas.{fresh_reader}
use Rattle.cli_base.proofs.TakenLines.{takes_front, takes_more}
use Rattle.cli_running.proofs.FaultedRuns.{faulted_answers, faulted_judges, faulted_needs_none, faulted_undone}
use Rattle.cli_running.proofs.ReadFaults.{unended_bytes, unended_lines}
use Rattle.cli_running.specs.Running.{CountsOwner, TakesBehindFirst, TakesTo, TellsVersion, is_after_opening, is_before_opening, is_run_answer, lines_typed}
use Rattle.cli_sessions.specs.Opening.{Judges, open_status}
use Rattle.cli_sessions.specs.Script.{IsReading}
use Rattle.cli_sessions.specs.Sessions.{script_status}
use Rattle.cli_sessions.specs.Taking.{AreTaken, TakesNothing, TakesOne}
use Rattle.cli_sessions.specs.declared.script.ScriptFault.{ScriptFault}
use Rattle.cli_sessions.specs.declared.script.ScriptFault.TheVariants.{Applying, BadLine, OutOfMemory, ReadFault, WriteFault}
use Rattle.cli_serving.specs.Lines.{AskTurns, BeginsLines, HasBadTurn, IsBadTurn, ReadsAll, ReadsAllTyped, serve_status, turn_ended}
use Rattle.cli_serving.specs.Promises.Serve.{IsOfReading}
use Rattle.cli_serving.specs.Seating.{FailsSeat}
use Rattle.cli_serving.specs.Taking.{NumbersBadTurn, TakenByTurns, TakesTurns}
use Rattle.cli_serving.specs.TurnAnswers.{ServeReadsByCount, ServeWritesByCount}
use Rattle.cli_serving.specs.Went.{ServeWent}
use Rattle.cli_serving.specs.declared.serve_fault.ServeFault.{ServeFault}
use Rattle.cli_serving.specs.declared.serve_fault.ServeFault.TheVariants.{Reading, Script}

-- ---- which answers there are

-- a session's reading fails by bytes, by the disk or for want of memory
of_bytes : (told : Option (List ℕ)) (ask : SeatAsk) (sessions : List SessionView) (met : ClientFault) → FailsSeat told ask sessions met → IsOfBytes met
of_bytes told (Begins holder key) sessions met fails = fails.2
of_bytes told (Steps n) sessions met fails = fails.4
of_bytes told (Pins n) sessions met fails = fails.3
of_bytes told (Shows n) sessions client.NotAStore fails = tt
of_bytes told (Shows n) sessions client.WrongKey fails = absurd fails.3
of_bytes told (Shows n) sessions (client.Damaged at) fails = tt
of_bytes told (Shows n) sessions (client.Tampered batch at) fails = tt
of_bytes told (Shows n) sessions (client.NoHolder known) fails = absurd fails.3
of_bytes told (Shows n) sessions client.Unseen fails = absurd fails.3
of_bytes told (Shows n) sessions client.DiskFault fails = tt
of_bytes told (Shows n) sessions client.OutOfMemory fails = tt

reading_answers : (met : ClientFault) → IsOfBytes met → IsTrue (is_run_answer (reading_status met))
reading_answers client.NotAStore is = refl
reading_answers client.WrongKey is = refl
reading_answers (client.Damaged at) is = refl
reading_answers (client.Tampered batch at) is = refl
reading_answers (client.NoHolder known) is = absurd is
reading_answers client.Unseen is = absurd is
reading_answers client.DiskFault is = refl
reading_answers client.OutOfMemory is = refl

-- what holds of each status that isn't one of these holds where a reading fails
each_reading : (P : Status → Type 0) → P statuses.NotAStore → P statuses.WrongKey → ((at : ℕ) → P (statuses.Damaged at))
    → ((batch at : ℕ) → P (statuses.Tampered batch at)) → ((known : ℕ) → P (statuses.NoHolder known)) → P statuses.Unseen → P statuses.DiskFault
    → P statuses.OutOfMemory → (met : ClientFault) → P (reading_status met)
each_reading P store key damaged tampered holder unseen disk memory client.NotAStore = store
each_reading P store key damaged tampered holder unseen disk memory client.WrongKey = key
each_reading P store key damaged tampered holder unseen disk memory (client.Damaged at) = damaged at
each_reading P store key damaged tampered holder unseen disk memory (client.Tampered batch at) = tampered batch at
each_reading P store key damaged tampered holder unseen disk memory (client.NoHolder known) = holder known
each_reading P store key damaged tampered holder unseen disk memory client.Unseen = unseen
each_reading P store key damaged tampered holder unseen disk memory client.DiskFault = disk
each_reading P store key damaged tampered holder unseen disk memory client.OutOfMemory = memory

-- a reading that failed isn't the end of the lines
pub served_undone : {P : Type 0} (fault : ServeFault) → serve_status (Err fault) ≡ statuses.Done → P
served_undone (Script fault) is = faulted_undone fault is
served_undone {P} (Reading met) is =
    each_reading (λ s. s ≡ statuses.Done → P) (λ e. absurd cc) (λ e. absurd cc) (λ at e. absurd cc) (λ batch at e. absurd cc) (λ known e. absurd cc)
    (λ e. absurd cc) (λ e. absurd cc) (λ e. absurd cc) met is

pub served_needs_none : {P : Type 0} (fault : ServeFault) → serve_status (Err fault) ≡ statuses.NeedsUpgrade → P
served_needs_none (Script fault) is = faulted_needs_none fault is
served_needs_none {P} (Reading met) is =
    each_reading (λ s. s ≡ statuses.NeedsUpgrade → P) (λ e. absurd cc) (λ e. absurd cc) (λ at e. absurd cc) (λ batch at e. absurd cc) (λ known e. absurd cc)
    (λ e. absurd cc) (λ e. absurd cc) (λ e. absurd cc) met is

-- the input's count rose where its fault is told, and the output's where its is
pub served_reads : (fault : ServeFault) (old new : ℕ) → ServeReadsByCount (Err fault) old new → serve_status (Err fault) ≡ statuses.ReadFault → old < new
served_reads (Script (BadLine line)) old new counts is = absurd cc
served_reads (Script ReadFault) old new counts is = counts
served_reads (Script WriteFault) old new counts is = absurd cc
served_reads (Script OutOfMemory) old new counts is = absurd cc
served_reads (Script (Applying faults.RandomFault)) old new counts is = absurd cc
served_reads (Script (Applying (faults.RandomShort had need))) old new counts is = absurd cc
served_reads (Script (Applying faults.DiskFault)) old new counts is = absurd cc
served_reads (Script (Applying faults.Closed)) old new counts is = absurd cc
served_reads (Script (Applying faults.OutOfMemory)) old new counts is = absurd cc
served_reads (Reading met) old new counts is =
    each_reading (λ s. s ≡ statuses.ReadFault → old < new) (λ e. absurd cc) (λ e. absurd cc) (λ at e. absurd cc) (λ batch at e. absurd cc) (λ known e. absurd cc)
    (λ e. absurd cc) (λ e. absurd cc) (λ e. absurd cc) met is

pub served_writes : (fault : ServeFault) (old new : ℕ) → ServeWritesByCount (Err fault) old new → serve_status (Err fault) ≡ statuses.WriteFault → old < new
served_writes (Script (BadLine line)) old new counts is = absurd cc
served_writes (Script ReadFault) old new counts is = absurd cc
served_writes (Script WriteFault) old new counts is = counts
served_writes (Script OutOfMemory) old new counts is = absurd cc
served_writes (Script (Applying faults.RandomFault)) old new counts is = absurd cc
served_writes (Script (Applying (faults.RandomShort had need))) old new counts is = absurd cc
served_writes (Script (Applying faults.DiskFault)) old new counts is = absurd cc
served_writes (Script (Applying faults.Closed)) old new counts is = absurd cc
served_writes (Script (Applying faults.OutOfMemory)) old new counts is = absurd cc
served_writes (Reading met) old new counts is =
    each_reading (λ s. s ≡ statuses.WriteFault → old < new) (λ e. absurd cc) (λ e. absurd cc) (λ at e. absurd cc) (λ batch at e. absurd cc) (λ known e. absurd cc)
    (λ e. absurd cc) (λ e. absurd cc) (λ e. absurd cc) met is

-- neither count falls
pub reads_counted : (fault : ServeFault) (old new : ℕ) → ServeReadsByCount (Err fault) old new → old ≤ new
reads_counted (Script (BadLine line)) old new counts = counts
reads_counted (Script ReadFault) old new counts = omega (arith, counts)
reads_counted (Script WriteFault) old new counts = counts
reads_counted (Script OutOfMemory) old new counts = counts
reads_counted (Script (Applying fault)) old new counts = counts
reads_counted (Reading met) old new counts = counts

pub writes_counted : (fault : ServeFault) (old new : ℕ) → ServeWritesByCount (Err fault) old new → old ≤ new
writes_counted (Script (BadLine line)) old new counts = counts
writes_counted (Script ReadFault) old new counts = counts
writes_counted (Script WriteFault) old new counts = omega (arith, counts)
writes_counted (Script OutOfMemory) old new counts = counts
writes_counted (Script (Applying fault)) old new counts = counts
writes_counted (Reading met) old new counts = counts

-- a bad line behind the first isn't the first
pub served_behind : (fault : ServeFault) (given begun : ℕ) → given ≡ 1 → NumbersBadTurn (Err fault) (given + begun + 1)
    → is_before_opening (serve_status (Err fault)) ≡ false
served_behind (Script (BadLine line)) given begun first number = ne_eqb line 1 (λ is. omega (arith, number, first, is))
served_behind (Script ReadFault) given begun first number = refl
served_behind (Script WriteFault) given begun first number = refl
served_behind (Script OutOfMemory) given begun first number = refl
served_behind (Script (Applying faults.RandomFault)) given begun first number = refl
served_behind (Script (Applying (faults.RandomShort had need))) given begun first number = refl
served_behind (Script (Applying faults.DiskFault)) given begun first number = refl
served_behind (Script (Applying faults.Closed)) given begun first number = refl
served_behind (Script (Applying faults.OutOfMemory)) given begun first number = refl
served_behind (Reading met) given begun first number =
    each_reading (λ s. is_before_opening s ≡ false) refl refl (λ at. refl) (λ batch at. refl) (λ known. refl) refl refl refl met

-- ---- which lines were begun

pub asks_no_turn : (lines : List InputLine) → AskTurns [] lines lines
asks_no_turn lines = record { lines = []; before_is = refl; turns_are = refl }

module _ (turns : List Turn) (before after : List InputLine) where
  abbrev HasBegun : Status → Type 0
  HasBegun status = BeginsLines status turns before

  applying_begins : (fault : ApplyFault) → AskTurns turns before after → HasBegun (serve_status (Err (Script (Applying fault))))
  applying_begins faults.RandomFault asks = (after, asks)
  applying_begins (faults.RandomShort had need) asks = (after, asks)
  applying_begins faults.DiskFault asks = (after, asks)
  applying_begins faults.Closed asks = (after, asks)
  applying_begins faults.OutOfMemory asks = (after, asks)

  pub turns_begun : (result : Result (Unit {0}) ServeFault) (given : ℕ) → given ≡ 1 → NumbersBadTurn result (given + length turns + 1)
      → TakesTurns result turns before after → HasBegun (serve_status result)
  turns_begun (Ok tt) given first number takes = takes.0
  turns_begun (Err (Script (BadLine line))) given first number takes = inr (omega (arith, number, first), takes.0, takes.1, takes.2)
  turns_begun (Err (Script ReadFault)) given first number takes = (after, takes)
  turns_begun (Err (Script WriteFault)) given first number takes = (after, takes)
  turns_begun (Err (Script OutOfMemory)) given first number takes = takes
  turns_begun (Err (Script (Applying fault))) given first number takes = applying_begins fault takes
  turns_begun (Err (Reading met)) given first number takes =
      each_reading HasBegun (after, takes) (after, takes) (λ at. (after, takes)) (λ batch at. (after, takes)) (λ known. (after, takes)) (after, takes) (after, takes)
      (after, takes) met

-- ---- how much was taken

module _ (begun : ℕ) (old new : LineState) (before left : List ℕ) where
  abbrev Behind : Status → Type 0
  Behind status = TakesBehindFirst (bytes_ahead old) (turn_ended status begun) before left

  -- to the end of the last line that was begun
  taken_whole : TakesLines begun (bytes_ahead old before) left → TakesBehindFirst (bytes_ahead old) (Some (begun + 1)) before left
  taken_whole taken = λ front typed one are. takes_front 1 begun (begun + 1) front (bytes_ahead old before) typed left (omega arith) one are taken

  none_said : TakesBehindFirst (bytes_ahead old) None before left
  none_said = λ front typed one are. tt

  applying_taken : (fault : ApplyFault) → TakesLines begun (bytes_ahead old before) left → Behind (serve_status (Err (Script (Applying fault))))
  applying_taken faults.RandomFault taken = taken_whole taken
  applying_taken (faults.RandomShort had need) taken = taken_whole taken
  applying_taken faults.DiskFault taken = taken_whole taken
  applying_taken faults.Closed taken = taken_whole taken
  applying_taken faults.OutOfMemory taken = none_said

  pub turns_taken : (result : Result (Unit {0}) ServeFault) (given : ℕ) → given ≡ 1 → NumbersBadTurn result (given + begun + 1)
      → TakenByTurns result begun old new before left → Behind (serve_status result)
  turns_taken (Ok tt) given first number taken = none_said
  turns_taken (Err (Script (BadLine line))) given first number taken = λ front typed one are.
      takes_front 1 (begun + 1) line front (bytes_ahead old before) typed left (omega (arith, number, first)) one are taken
  turns_taken (Err (Script ReadFault)) given first number taken = none_said
  turns_taken (Err (Script WriteFault)) given first number taken = taken_whole taken
  turns_taken (Err (Script OutOfMemory)) given first number taken = none_said
  turns_taken (Err (Script (Applying fault))) given first number taken = applying_taken fault taken
  turns_taken (Err (Reading met)) given first number taken =
      let whole = taken_whole taken in
      each_reading Behind whole whole (λ at. whole) (λ batch at. whole) (λ known. whole) whole whole none_said met

-- ---- where the input failed

-- the lines behind the first
pub turns_read : (result : Result (Unit {0}) ServeFault) (turns : List Turn) (old new : LineState) (before left : List ℕ) → serve_status result ≡ statuses.ReadFault
    → (result ≡ Err (Script ReadFault) → IsUnended new) → TakesTurns result turns (lines_ahead old before) (lines_ahead new left)
    → TakenByTurns result (length turns) old new before left → ReadsAll turns (lines_ahead old before) (bytes_ahead old before) left
turns_read (Ok tt) turns old new before left is unended asks taken = absurd cc
turns_read (Err (Script ReadFault)) turns old new before left is unended asks taken =
    let front = unended refl in
    record {
      given = taken.0;
      front = new.line;
      room = new.room;
      taken = taken.2 ∙ ap (λ rest. taken.0 ++ rest) (unended_bytes new left front);
      of_lines = taken.1;
      one = front.one;
      within = front.within;
      asks = subst (λ (rest : List InputLine). AskTurns turns (lines_ahead old before) rest) (unended_lines new left front) asks;
    }
turns_read (Err (Script (BadLine line))) turns old new before left is unended asks taken = absurd cc
turns_read (Err (Script WriteFault)) turns old new before left is unended asks taken = absurd cc
turns_read (Err (Script OutOfMemory)) turns old new before left is unended asks taken = absurd cc
turns_read (Err (Script (Applying faults.RandomFault))) turns old new before left is unended asks taken = absurd cc
turns_read (Err (Script (Applying (faults.RandomShort had need)))) turns old new before left is unended asks taken = absurd cc
turns_read (Err (Script (Applying faults.DiskFault))) turns old new before left is unended asks taken = absurd cc
turns_read (Err (Script (Applying faults.Closed))) turns old new before left is unended asks taken = absurd cc
turns_read (Err (Script (Applying faults.OutOfMemory))) turns old new before left is unended asks taken = absurd cc
turns_read (Err (Reading met)) turns old new before left is unended asks taken =
    each_reading (λ s. s ≡ statuses.ReadFault → ReadsAll turns (lines_ahead old before) (bytes_ahead old before) left) (λ e. absurd cc) (λ e. absurd cc)
    (λ at e. absurd cc) (λ batch at e. absurd cc) (λ known e. absurd cc) (λ e. absurd cc) (λ e. absurd cc) (λ e. absurd cc) met is

-- the first line, of which nothing was given
pub first_cut : (fault : ScriptFault) (reader new : LineState) (typed left : List ℕ) → reader ≡ fresh_reader → TakesOne {U = List ℕ} (Err fault) reader new typed left
    → (fault ≡ ReadFault → IsUnended new) → script_status fault ≡ statuses.ReadFault → ReadsAllTyped [] typed left
first_cut ReadFault reader new typed left fresh takes unended is =
    let front = unended refl in
    let none : TakesNothing fresh_reader new typed left = subst (λ (r : LineState). TakesNothing r new typed left) fresh takes in
    inl (refl, new.line, front.one, subst (λ room. length new.line ≤ room) none.1 front.within, sym none.0 ∙ unended_bytes new left front)
first_cut (BadLine line) reader new typed left fresh takes unended is = absurd cc
first_cut WriteFault reader new typed left fresh takes unended is = absurd cc
first_cut OutOfMemory reader new typed left fresh takes unended is = absurd cc
first_cut (Applying faults.RandomFault) reader new typed left fresh takes unended is = absurd cc
first_cut (Applying (faults.RandomShort given need)) reader new typed left fresh takes unended is = absurd cc
first_cut (Applying faults.DiskFault) reader new typed left fresh takes unended is = absurd cc
first_cut (Applying faults.Closed) reader new typed left fresh takes unended is = absurd cc
first_cut (Applying faults.OutOfMemory) reader new typed left fresh takes unended is = absurd cc

-- the lines behind the first, of which one was taken
pub behind_cut : (turns : List Turn) (held : LineState) (typed middle left : List ℕ) → AreTaken 1 fresh_reader held typed middle → lines_ahead held middle ≡ lines_typed typed
    → ReadsAll turns (lines_ahead held middle) (bytes_ahead held middle) left → ReadsAllTyped turns typed left
behind_cut turns held typed middle left first behind reads =
    inr (first.0, bytes_ahead held middle, first.1, first.2, subst (λ (lines : List InputLine). ReadsAll turns lines (bytes_ahead held middle) left) behind reads)

-- ---- before the opening none is begun

-- the first line isn't an owner's, or wasn't read
pub unread_begins : (fault : ScriptFault) → IsReading fault → (old new : ℕ) → CountsOwner (Err fault) old new → (lines : List InputLine) → BeginsLines (script_status fault) [] lines
unread_begins (BadLine line) reading old new count lines = inl (count, refl)
unread_begins ReadFault reading old new count lines = (lines, asks_no_turn lines)
unread_begins OutOfMemory reading old new count lines = (lines, asks_no_turn lines)
unread_begins WriteFault reading old new count lines = absurd reading
unread_begins (Applying fault) reading old new count lines = absurd reading

pub unread_takes : (fault : ScriptFault) → IsReading fault → (old new : ℕ) → CountsOwner (Err fault) old new → (reader held : LineState) → reader ≡ fresh_reader
    → (typed left : List ℕ) → TakesOne {U = List ℕ} (Err fault) reader held typed left → TakesTo (turn_ended (script_status fault) 0) typed left
unread_takes (BadLine line) reading old new count reader held fresh typed left takes =
    let one : TakesLines 1 typed left = subst (λ (r : LineState). TakesLines 1 (bytes_ahead r typed) left) fresh takes in
    takes_more 1 line typed left (omega (arith, count)) one
unread_takes ReadFault reading old new count reader held fresh typed left takes = tt
unread_takes OutOfMemory reading old new count reader held fresh typed left takes = tt
unread_takes WriteFault reading old new count reader held fresh typed left takes = absurd reading
unread_takes (Applying fault) reading old new count reader held fresh typed left takes = absurd reading

pub unread_tells_none : (fault : ScriptFault) → IsReading fault → (old new : ℕ) → CountsOwner (Err fault) old new → (typed shown : Option (List ℕ)) → TellsVersion (script_status fault) typed shown
unread_tells_none (BadLine line) reading old new count typed shown = λ after. absurd (false≢true (subst (λ l. IsTrue (is_after_opening (statuses.BadScript l))) count after))
unread_tells_none ReadFault reading old new count typed shown = λ after. absurd (false≢true after)
unread_tells_none OutOfMemory reading old new count typed shown = λ after. absurd (false≢true after)
unread_tells_none WriteFault reading old new count typed shown = absurd reading
unread_tells_none (Applying fault) reading old new count typed shown = absurd reading

-- the store isn't opened
pub unopened_begins : (fault : OpenFault) (lines : List InputLine) → BeginsLines (open_status fault) [] lines
unopened_begins opening.NotAStore lines = (lines, asks_no_turn lines)
unopened_begins opening.WrongKey lines = (lines, asks_no_turn lines)
unopened_begins (opening.Damaged at) lines = (lines, asks_no_turn lines)
unopened_begins (opening.Tampered batch at) lines = (lines, asks_no_turn lines)
unopened_begins opening.DiskFault lines = (lines, asks_no_turn lines)
unopened_begins opening.OutOfMemory lines = (lines, asks_no_turn lines)

pub unopened_takes : (fault : OpenFault) (typed left : List ℕ) → TakesLines 1 typed left → TakesTo (turn_ended (open_status fault) 0) typed left
unopened_takes opening.NotAStore typed left takes = takes
unopened_takes opening.WrongKey typed left takes = takes
unopened_takes (opening.Damaged at) typed left takes = takes
unopened_takes (opening.Tampered batch at) typed left takes = takes
unopened_takes opening.DiskFault typed left takes = takes
unopened_takes opening.OutOfMemory typed left takes = tt

-- ---- a bad line

none_bad : (lines : List (List ℕ)) (turns : List Turn) (front rest : List InputLine) → map turn_in lines ≡ map Some turns → map Whole lines ≡ front ++ rest → IsBadTurn rest → ⊥
none_bad [] turns [] [] are same bad = bad
none_bad [] turns [] (line ∷ rest) are same bad = absurd cc
none_bad (line ∷ lines) turns [] [] are same bad = bad
none_bad (line ∷ lines) [] [] (Whole other ∷ rest) are same bad = absurd cc
none_bad (line ∷ lines) (t ∷ turns) [] (Whole other ∷ rest) are same bad =
    let here : line ≡ other = cc in
    let asks : turn_in line ≡ Some t = cc in
    let both : None ≡ Some t = sym bad ∙ ap turn_in (sym here) ∙ asks in
    absurd cc
none_bad (line ∷ lines) turns [] (TooLong ∷ rest) are same bad = absurd cc
none_bad [] turns (one ∷ front) rest are same bad = absurd cc
none_bad (line ∷ lines) [] (one ∷ front) rest are same bad = absurd cc
none_bad (line ∷ lines) (t ∷ turns) (one ∷ front) rest are same bad =
    let others : map turn_in lines ≡ map Some turns = cc in
    let behind : map Whole lines ≡ front ++ rest = cc in
    none_bad lines turns front rest others behind bad

pub bad_is_undone : (status : Status) (turns : List Turn) (lines : List InputLine) → BeginsLines status turns lines → HasBadTurn lines → status ≢ statuses.Done
bad_is_undone status turns lines begins bad = λ done.
    let all : AskTurns turns lines [] = subst (λ (s : Status). BeginsLines s turns lines) done begins in
    none_bad all.lines turns bad.0 bad.1 all.turns_are (sym (append-nil (map Whole all.lines)) ∙ sym all.before_is ∙ bad.2) bad.3

-- ---- what the lines that were begun tell of the end

longer : (first : List Turn) (t : Turn) → first ++ t ∷ [] ≢ []
longer first t is = omega (arith, length-append first (t ∷ []), ap length is)

module _ {X : Type 0} (Step : X → Request → Reply → X → Type 0) (Fails : X → Request → ApplyFault → X → Type 0) (Stand : X → ℕ → List Request → Type 0)
    (Reads : X → X → Type 0) (shown : X → Option (List ℕ)) (start end : X) (turns : List Turn) (asked : List Request) (before after : Option (List ℕ)) where
  abbrev Went : Result (Unit {0}) ServeFault → Type 0
  Went result = ServeWent Step Fails Stand Reads shown result start end turns asked before after

  pub went_answers : (result : Result (Unit {0}) ServeFault) → Went result → IsTrue (is_run_answer (serve_status result))
  went_answers (Ok tt) went = refl
  went_answers (Err (Script fault)) went = faulted_answers fault
  went_answers (Err (Reading met)) went = reading_answers met (of_bytes (shown went.x) went.ask went.sessions met went.ends.0)

  -- where no reading failed nothing is said of bytes
  pub went_judged : (result : Result (Unit {0}) ServeFault) → Went result → Judges (serve_status result) None ⊎ IsOfReading (serve_status result) turns
  went_judged (Ok tt) went = inl refl
  went_judged (Err (Script fault)) went = inl (faulted_judges fault None refl)
  went_judged (Err (Reading met)) went = inr (λ none. longer went.first (ToSeat went.ask) (sym went.turns_are ∙ none), met, refl)
