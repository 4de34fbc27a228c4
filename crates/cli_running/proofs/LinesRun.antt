-- What a run does of its lines, whatever the disk shows.
use Rattle.std.proofs.Common.{◌≡◌, ◌≢◌, ◌≤◌, ⊎_elim, ℕ, ◌+◌, List, [], ◌∷◌, ◌++◌, length, map, Option, Some, None, Result, Ok, Err, inl, inr, arith, refl, sym, ap, subst, ◌∙◌, length-append}
use Rattle.std.specs.Prelude.{is_some}
use Rattle.std.proofs.lemmas.List.{append-nil}
use Rattle.commit_journal.specs.declared.fault.OpenFault.{OpenFault}
use Rattle.commit_journal.specs.declared.fault.OpenFault.TheVariants as opening
use Rattle.cry_base.specs.Requests.{Request}
use Rattle.cry_base.specs.declared.commands.Reply.{Reply}
use Rattle.cry_io.specs.Told.{WhereBothTold}
use Rattle.cry_io.proofs.ToldLemmas.{told_again}
use Rattle.script_text.specs.Tasks.{Task, task_in}
use Rattle.cli_base.specs.Input.{TakesLines}
use Rattle.cli_base.specs.Lines.{InputLine, LineState, bytes_ahead, lines_ahead}
use Rattle.cli_sessions.specs.Taking.{AreTaken, HoldsFew, TakesOne}
use Rattle.cli_sessions.proofs.Takings.{taken_few}
use Rattle.cli_base.specs.Lines.InputLine.{Whole, TooLong}
use Rattle.cli_running.specs.Running.{AnswersLines, AsksLines, CountsOwner, HasBadLine, PrintsAnswers, RanLines, TakesBehindFirst, TakesTo, line_ended}
use Rattle.cli_sessions.specs.Opening.{open_status}
use Rattle.cli_sessions.specs.Sessions.{ended_status, script_status}
use Rattle.cli_sessions.specs.Script.{Answered, AskThese, Asks, Blocks, EndsIn, IsBadFirst, IsReading, Ran, answered_in, commands_in, lines_in}
use Rattle.cli_sessions.specs.Script.Blocks.{NoLine, OneMore}
use Rattle.cli_sessions.specs.Script.Answered.{Begun, Then}
use Rattle.cli_sessions.specs.declared.script.ScriptFault.{ScriptFault}
use Rattle.cli_sessions.specs.declared.script.ScriptFault.TheVariants.{BadLine, ReadFault, WriteFault, OutOfMemory, Applying}
use Rattle.cli_base.specs.declared.status.Status.{Status}
use Rattle.cli_base.specs.declared.status.Status.TheVariants as statuses
use Rattle.cli_base.proofs.InputLemmas.{fresh_reader}
use Rattle.cli_base.proofs.TakenLines.{takes_front, takes_more}
use Rattle.cli_sessions.proofs.FewerLines.{lines_counted}
use Rattle.cli_sessions.proofs.LineScripts.{commands_more}
use Rattle.cli_sessions.proofs.ScriptLemmas.{asks_none, same_told, whole_is_cut}
use Rattle.store_owner.specs.declared.apply_fault.ApplyFault.{ApplyFault}
use Rattle.store_owner.specs.declared.apply_fault.ApplyFault.TheVariants as faults

-- ---- behind the opening

-- each command that was answered has one reply
one_reply_each : {X : Type 0} (Step : X → Request → Reply → X → Type 0) (start : X) (asked : List Request) (replies : List Reply) (end : X)
    → Answered Step start asked replies end → length replies ≡ length asked
one_reply_each Step start asked replies end Begun = refl
one_reply_each Step start asked replies end (Then {asked = rs} {replies = told} {x = x} {y = y} {request = r} {reply = reply} before step) =
    let so_far = one_reply_each Step start rs told x before in
    let given : length (told ++ reply ∷ []) ≡ length told + 1 = length-append told (reply ∷ []) in
    let wanted : length (rs ++ r ∷ []) ≡ length rs + 1 = length-append rs (r ∷ []) in
    omega (arith, so_far, given, wanted)

-- ---- how many lines

filled : (block : List Request) → block ≢ [] → 1 ≤ length block
filled [] some = absurd (some refl)
filled (one ∷ others) some = omega arith

-- one block more
block_more : (blocks : List (List Request)) (block : List Request) → block ≢ [] → length (commands_in blocks) + 1 ≤ length (commands_in (blocks ++ block ∷ []))
block_more blocks block some =
    let one = filled block some in
    omega (arith, ap length (commands_more blocks block), length-append (commands_in blocks) block, one)

-- the lines that ask for this are as many as their tasks
pub these_counted : (tasks : List Task) (blocks : List (List Request)) (asked : List Request) (before after : List InputLine) → AskThese tasks blocks asked before after
    → AsksLines asked (length tasks) before after
these_counted tasks blocks asked before after these = (these.0, lines_counted tasks blocks asked before after these)

module _ (X : Type 0) (Step : X → Request → Reply → X → Type 0) (Fails : X → Request → ApplyFault → X → Type 0) (Stand : X → ℕ → List Request → Type 0) (start end : X)
    (old new : LineState) (left_before left_after out_before out_after : Option (List ℕ)) (told : is_some left_after ≡ is_some left_before) where
  abbrev HasRan : Result (Unit {0}) ScriptFault → Type 0
  HasRan result = Ran Step Fails Stand result start end old new left_before left_after out_before out_after

  abbrev answered_by : (result : Result (Unit {0}) ScriptFault) → HasRan result → List Request
  answered_by result ran = answered_in Step Fails Stand result start end ran.went

  abbrev lines_by : (result : Result (Unit {0}) ScriptFault) → HasRan result → ℕ
  lines_by result ran = lines_in Step Fails Stand result start end ran.went

  abbrev RunsLines : Status → List Request → ℕ → Type 0
  RunsLines status asked number = RanLines status asked number (lines_ahead old) left_before out_before out_after

  again : (b : List ℕ) → left_before ≡ Some b → (a : List ℕ) × (left_after ≡ Some a)
  again b was = told_again left_before left_after b told was

  blocks_within : (tasks : List Task) (blocks : List (List Request)) (replies : List Reply) (x : X) → Blocks Step Fails Stand start tasks blocks replies x
      → length tasks ≤ length (commands_in blocks)
  blocks_within tasks blocks replies x NoLine = omega arith
  blocks_within tasks blocks replies x (OneMore {tasks = ts} {blocks = bs} {replies = told} {some = some} {x = z} {y = y} {task = t} {block = b} before went) =
      let so_far = blocks_within ts bs told z before in
      let more = block_more bs b went.some_asked in
      omega (arith, so_far, more, length-append ts (t ∷ []))

  -- the last line was begun
  ended_within : (result : Result (Unit {0}) ScriptFault) (tasks : List Task) (blocks : List (List Request)) (replies : List Reply)
      → (ends : EndsIn Step Fails Stand result start tasks blocks replies end)
      → (length tasks ≡ length ends.first_tasks + 1) × (length tasks ≤ length (commands_in blocks))
  ended_within result tasks blocks replies ends =
      let so_far = blocks_within ends.first_tasks ends.first_blocks ends.first_replies ends.x ends.first in
      let more : length (commands_in ends.first_blocks) + 1 ≤ length (commands_in blocks) =
      subst (λ bs. length (commands_in ends.first_blocks) + 1 ≤ length (commands_in bs)) (sym ends.blocks_are) (block_more ends.first_blocks ends.block ends.last.some_asked) in
      let count : length tasks ≡ length ends.first_tasks + 1 = ap length ends.tasks_are ∙ length-append ends.first_tasks (ends.task ∷ []) in
      (count, omega (arith, so_far, more, count))

  -- the last command met a fault of the random source, or of the disk
  pub record Stopped : Type 0 where
    pub asked : List Request
    pub number : ℕ
    pub replies : List Reply
    pub next : Request
    pub one_each : length replies ≡ length asked
    pub within : number ≤ length asked
    pub takes : (b : List ℕ) → left_before ≡ Some b → (a : List ℕ) × AsksLines (asked ++ next ∷ []) (number + 1) (lines_ahead old b) (lines_ahead new a)
    pub printed : WhereBothTold out_before out_after (PrintsAnswers statuses.Done replies)

  abbrev stopped : (fault : ApplyFault) → HasRan (Err (Applying fault)) → Stopped
  stopped fault ran =
      let went = ran.went in
      let x : X = went.stands.0 in
      let first : List Request = went.stands.1 in
      let next : Request = went.stands.2 in
      let counts = ended_within (Err (Applying fault)) went.tasks went.blocks went.replies went.by_lines in
      let number : ℕ = length went.by_lines.first_tasks in
      record {
        asked = first;
        number = number;
        replies = went.replies;
        next = next;
        one_each = one_reply_each Step start first went.replies x went.stands.4;
        within = omega (arith, counts, ap length went.asked_are, ap length went.stands.3, length-append first (next ∷ []));
        takes = λ b was.
            let a = again b was in
            let whole = these_counted went.tasks went.blocks went.asked (lines_ahead old b) (lines_ahead new a.0) (ran.lines b a.0 was a.1) in
            let counted = subst (λ n. AsksLines went.asked n (lines_ahead old b) (lines_ahead new a.0)) counts.0 whole in
            (a.0, subst (λ rs. AsksLines rs (number + 1) (lines_ahead old b) (lines_ahead new a.0)) went.stands.3 counted);
        printed = ran.printed;
      }

  lines_all : (ran : HasRan (Ok tt)) → RunsLines statuses.Done ran.went.asked (length ran.went.tasks)
  lines_all ran =
      let went = ran.went in
      record {
        replies = went.replies;
        one_each = one_reply_each Step start went.asked went.replies end went.stands;
        within = subst (λ rs. length went.tasks ≤ length rs) (sym went.asked_are) (blocks_within went.tasks went.blocks went.replies end went.by_lines);
        counted = tt;
        answered = λ b was. let a = again b was in these_counted went.tasks went.blocks went.asked (lines_ahead old b) [] (ran.lines b a.0 was a.1).0;
        printed = ran.printed;
      }

  lines_to_bad : (line : ℕ) → old.given ≡ 1 → (ran : HasRan (Err (BadLine line))) → RunsLines (statuses.BadScript line) ran.went.asked (length ran.went.tasks)
  lines_to_bad line first ran =
      let went = ran.went in
      record {
        replies = went.replies;
        one_each = one_reply_each Step start went.asked went.replies end went.stands;
        within = subst (λ rs. length went.tasks ≤ length rs) (sym went.asked_are) (blocks_within went.tasks went.blocks went.replies end went.by_lines);
        counted = inr (omega (arith, ran.number, first));
        answered = λ b was.
            let a = again b was in
            let bad = ran.lines b a.0 was a.1 in
            inr (bad.0, these_counted went.tasks went.blocks went.asked (lines_ahead old b) bad.0 bad.1, bad.2);
        printed = ran.printed;
      }

  lines_to_fault : (ran : HasRan (Err ReadFault)) → RunsLines statuses.ReadFault ran.went.asked (length ran.went.tasks)
  lines_to_fault ran =
      let went = ran.went in
      record {
        replies = went.replies;
        one_each = one_reply_each Step start went.asked went.replies end went.stands;
        within = subst (λ rs. length went.tasks ≤ length rs) (sym went.asked_are) (blocks_within went.tasks went.blocks went.replies end went.by_lines);
        counted = tt;
        answered = λ b was.
            let a = again b was in
            (lines_ahead new a.0, these_counted went.tasks went.blocks went.asked (lines_ahead old b) (lines_ahead new a.0) (ran.lines b a.0 was a.1));
        printed = ran.printed;
      }

  lines_cut : (ran : HasRan (Err WriteFault)) → RunsLines statuses.WriteFault ran.went.asked (length ran.went.tasks)
  lines_cut ran =
      let went = ran.went in
      record {
        replies = went.replies;
        one_each = one_reply_each Step start went.asked went.replies end went.stands;
        within = subst (λ rs. length went.tasks ≤ length rs) (sym went.asked_are) (ended_within (Err WriteFault) went.tasks went.blocks went.replies went.by_lines).1;
        counted = tt;
        answered = λ b was.
            let a = again b was in
            (lines_ahead new a.0, these_counted went.tasks went.blocks went.asked (lines_ahead old b) (lines_ahead new a.0) (ran.lines b a.0 was a.1));
        printed = ran.printed;
      }

  lines_out : (ran : HasRan (Err OutOfMemory)) → RunsLines statuses.OutOfMemory ran.went.asked (length ran.went.tasks)
  lines_out ran =
      let went = ran.went in
      record {
        replies = went.replies;
        one_each = one_reply_each Step start went.asked went.replies end went.stands;
        within = subst (λ rs. length went.tasks ≤ length rs) (sym went.asked_are)
            (⊎_elim (λ all. blocks_within went.tasks went.blocks went.replies end all)
            (λ ends. (ended_within (Err OutOfMemory) went.tasks went.blocks went.replies ends).1) went.by_lines);
        counted = tt;
        answered = λ b was.
            let a = again b was in
            let cut = ran.lines b a.0 was a.1 in
            inl (cut.0, these_counted went.tasks went.blocks went.asked (lines_ahead old b) cut.0 cut.1);
        printed = ran.printed;
      }

  lines_undrawn : (s : Stopped) → RunsLines statuses.RandomFault s.asked s.number
  lines_undrawn s = record {
    replies = s.replies;
    one_each = s.one_each;
    within = s.within;
    counted = tt;
    answered = λ b was. let t = s.takes b was in (s.next, lines_ahead new t.0, t.1);
    printed = s.printed;
  }

  lines_short : (left need : ℕ) (s : Stopped) → RunsLines (statuses.RandomShort left need) s.asked s.number
  lines_short left need s = record {
    replies = s.replies;
    one_each = s.one_each;
    within = s.within;
    counted = tt;
    answered = λ b was. let t = s.takes b was in (s.next, lines_ahead new t.0, t.1);
    printed = s.printed;
  }

  lines_unwritten : (s : Stopped) → RunsLines statuses.DiskFault s.asked s.number
  lines_unwritten s = record {
    replies = s.replies;
    one_each = s.one_each;
    within = s.within;
    counted = tt;
    answered = λ b was. let t = s.takes b was in inr (s.next, lines_ahead new t.0, t.1);
    printed = s.printed;
  }

  lines_without : (s : Stopped) → RunsLines statuses.OutOfMemory s.asked s.number
  lines_without s = record {
    replies = s.replies;
    one_each = s.one_each;
    within = s.within;
    counted = tt;
    answered = λ b was. let t = s.takes b was in inr (s.next, lines_ahead new t.0, t.1);
    printed = λ x y before after. whole_is_cut s.replies x y (s.printed x y before after);
  }

  -- all of it by the status
  pub ran_lines : (result : Result (Unit {0}) ScriptFault) (ran : HasRan result) → old.given ≡ 1
      → RunsLines (ended_status result) (answered_by result ran) (lines_by result ran)
  ran_lines (Ok tt) ran first = lines_all ran
  ran_lines (Err (BadLine line)) ran first = lines_to_bad line first ran
  ran_lines (Err ReadFault) ran first = lines_to_fault ran
  ran_lines (Err WriteFault) ran first = lines_cut ran
  ran_lines (Err OutOfMemory) ran first = lines_out ran
  ran_lines (Err (Applying faults.RandomFault)) ran first = lines_undrawn (stopped faults.RandomFault ran)
  ran_lines (Err (Applying (faults.RandomShort left need))) ran first = lines_short left need (stopped (faults.RandomShort left need) ran)
  ran_lines (Err (Applying faults.DiskFault)) ran first = lines_unwritten (stopped faults.DiskFault ran)
  ran_lines (Err (Applying faults.Closed)) ran first = lines_unwritten (stopped faults.Closed ran)
  ran_lines (Err (Applying faults.OutOfMemory)) ran first = lines_without (stopped faults.OutOfMemory ran)

  -- and how much was taken
  abbrev Taken : Status → ℕ → Type 0
  Taken status number = WhereBothTold left_before left_after (TakesBehindFirst (bytes_ahead old) (line_ended status number))

  stopped_taken : (fault : ApplyFault) → (ran : HasRan (Err (Applying fault)))
      → WhereBothTold left_before left_after (TakesBehindFirst (bytes_ahead old) (Some (length ran.went.by_lines.first_tasks + 2)))
  stopped_taken fault ran = λ b a was now front typed one are.
      let went = ran.went in
      let count = (ended_within (Err (Applying fault)) went.tasks went.blocks went.replies went.by_lines).0 in
      takes_front 1 (length went.tasks) (length went.by_lines.first_tasks + 2) front (bytes_ahead old b) typed a (omega (arith, count)) one are (ran.taken b a was now)

  pub ran_taken : (result : Result (Unit {0}) ScriptFault) (ran : HasRan result) → old.given ≡ 1 → Taken (ended_status result) (lines_by result ran)
  ran_taken (Ok tt) ran first = λ b a was now front typed one are. tt
  ran_taken (Err (BadLine line)) ran first = λ b a was now front typed one are.
      let lines : ℕ = length ran.went.tasks in
      takes_front 1 (lines + 1) line front (bytes_ahead old b) typed a (omega (arith, ran.number, first)) one are (ran.taken b a was now)
  ran_taken (Err ReadFault) ran first = λ b a was now front typed one are. tt
  ran_taken (Err WriteFault) ran first = λ b a was now front typed one are.
      let lines : ℕ = length ran.went.tasks in
      takes_front 1 lines (lines + 1) front (bytes_ahead old b) typed a (omega arith) one are (ran.taken b a was now)
  ran_taken (Err OutOfMemory) ran first = λ b a was now front typed one are. tt
  ran_taken (Err (Applying faults.RandomFault)) ran first = stopped_taken faults.RandomFault ran
  ran_taken (Err (Applying (faults.RandomShort left need))) ran first = stopped_taken (faults.RandomShort left need) ran
  ran_taken (Err (Applying faults.DiskFault)) ran first = stopped_taken faults.DiskFault ran
  ran_taken (Err (Applying faults.Closed)) ran first = stopped_taken faults.Closed ran
  ran_taken (Err (Applying faults.OutOfMemory)) ran first = λ b a was now front typed one are. tt

-- ---- before the opening nothing is asked

nothing_printed : (written : Option (List ℕ)) → WhereBothTold written written (λ x y. y ≡ x ++ [])
nothing_printed written = λ x y was now. same_told written x y was now ∙ sym (append-nil x)

module _ (lines : List ℕ → List InputLine) (typed written : Option (List ℕ)) where
  abbrev Unasked : Status → Type 0
  Unasked status = RanLines status [] 0 lines typed written written

  none_asked : (b : List ℕ) → (rest : List InputLine) × AsksLines [] 0 (lines b) rest
  none_asked b = (lines b, these_counted [] [] [] (lines b) (lines b) (asks_none (lines b)))

  none_read : Unasked statuses.ReadFault
  none_read = record { replies = []; one_each = refl; within = omega arith; counted = tt; answered = λ b was. none_asked b; printed = nothing_printed written }

  none_without : Unasked statuses.OutOfMemory
  none_without = record {
    replies = [];
    one_each = refl;
    within = omega arith;
    counted = tt;
    answered = λ b was. inl (none_asked b);
    printed = λ x y was now. whole_is_cut [] x y (nothing_printed written x y was now);
  }

  none_behind_bad : (line : ℕ) → line ≡ 1 → Unasked (statuses.BadScript line)
  none_behind_bad line first =
      record { replies = []; one_each = refl; within = omega arith; counted = inl (first, refl, refl); answered = λ b was. inl first; printed = nothing_printed written }

  -- the first line isn't an owner's, or wasn't read
  pub unread_lines : (fault : ScriptFault) → IsReading fault → (old new : ℕ) → CountsOwner (Err fault) old new → Unasked (script_status fault)
  unread_lines (BadLine line) reading old new count = none_behind_bad line count
  unread_lines ReadFault reading old new count = none_read
  unread_lines OutOfMemory reading old new count = none_without
  unread_lines WriteFault reading old new count = absurd reading
  unread_lines (Applying fault) reading old new count = absurd reading

  -- the store isn't opened
  pub unopened_lines : (fault : OpenFault) → Unasked (open_status fault)
  unopened_lines opening.NotAStore = record { replies = []; one_each = refl; within = omega arith; counted = (refl, refl); answered = λ b was. none_asked b; printed = nothing_printed written }
  unopened_lines opening.WrongKey = record { replies = []; one_each = refl; within = omega arith; counted = (refl, refl); answered = λ b was. none_asked b; printed = nothing_printed written }
  unopened_lines (opening.Damaged at) = record { replies = []; one_each = refl; within = omega arith; counted = (refl, refl); answered = λ b was. none_asked b; printed = nothing_printed written }
  unopened_lines (opening.Tampered batch at) = record { replies = []; one_each = refl; within = omega arith; counted = (refl, refl); answered = λ b was. none_asked b; printed = nothing_printed written }
  unopened_lines opening.DiskFault = record { replies = []; one_each = refl; within = omega arith; counted = tt; answered = λ b was. inl (refl, refl); printed = nothing_printed written }
  unopened_lines opening.OutOfMemory = none_without

  -- it was, and needs an upgrade
  pub none_of_old : Unasked statuses.NeedsUpgrade
  none_of_old = record { replies = []; one_each = refl; within = omega arith; counted = (refl, refl); answered = λ b was. none_asked b; printed = nothing_printed written }

  -- and little was taken behind the first line
  abbrev TakenUnasked : Option (List ℕ) → Status → Type 0
  TakenUnasked left status = WhereBothTold typed left (TakesTo (line_ended status 0))

  pub unread_taken : (left : Option (List ℕ)) (fault : ScriptFault) → IsReading fault → (old new : ℕ) → CountsOwner (Err fault) old new
      → (reader held : LineState) → reader ≡ fresh_reader → WhereBothTold typed left (TakesOne {U = List ℕ} (Err fault) reader held)
      → TakenUnasked left (script_status fault)
  unread_taken left (BadLine line) reading old new count reader held fresh takes = λ x y was now.
      let one : TakesLines 1 x y = subst (λ (r : LineState). TakesLines 1 (bytes_ahead r x) y) fresh (takes x y was now) in
      takes_more 1 line x y (omega (arith, count)) one
  unread_taken left ReadFault reading old new count reader held fresh takes = λ x y was now. tt
  unread_taken left OutOfMemory reading old new count reader held fresh takes = λ x y was now. tt
  unread_taken left WriteFault reading old new count reader held fresh takes = absurd reading
  unread_taken left (Applying fault) reading old new count reader held fresh takes = absurd reading

  pub unopened_taken : (left : Option (List ℕ)) (fault : OpenFault) → WhereBothTold typed left (TakesLines 1) → TakenUnasked left (open_status fault)
  unopened_taken left opening.NotAStore takes = takes
  unopened_taken left opening.WrongKey takes = takes
  unopened_taken left (opening.Damaged at) takes = takes
  unopened_taken left (opening.Tampered batch at) takes = takes
  unopened_taken left opening.DiskFault takes = λ x y was now. takes_more 1 2 x y (omega arith) (takes x y was now)
  unopened_taken left opening.OutOfMemory takes = λ x y was now. tt

-- of an input that no more is taken of
pub none_taken : (reader : LineState) (left : Option (List ℕ)) → HoldsFew reader
    → WhereBothTold left left (TakesBehindFirst (bytes_ahead reader) (line_ended statuses.NeedsUpgrade 0))
none_taken reader left few = λ before after was now front typed one are.
    let same : after ≡ before = same_told left before after was now in
    subst (λ rest. TakesLines 1 typed rest) (sym same) (taken_few 1 fresh_reader reader typed before (front, one, are) few)

-- what the first line took of a whole input
pub key_taken : (reader held : LineState) (typed left : List ℕ) → reader ≡ fresh_reader → AreTaken 1 reader held typed left → AreTaken 1 fresh_reader held typed left
key_taken reader held typed left fresh taken = subst (λ (r : LineState). AreTaken 1 r held typed left) fresh taken

-- ---- the lines as they were typed

pub lines_as_typed : (status : Status) (asked : List Request) (number : ℕ) (lines behind : List ℕ → List InputLine) (first later before after : Option (List ℕ)) → is_some later ≡ is_some first
    → ((x y : List ℕ) → first ≡ Some x → later ≡ Some y → lines y ≡ behind x) → RanLines status asked number lines later before after
    → RanLines status asked number behind first before after
lines_as_typed status asked number lines behind first later before after told same ran = record {
  replies = ran.replies;
  one_each = ran.one_each;
  within = ran.within;
  counted = ran.counted;
  answered = λ x was. let y = told_again first later x told was in subst (AnswersLines status asked number) (same x y.0 was y.1) (ran.answered y.0 y.1);
  printed = ran.printed;
}

-- ---- a bad line

none_bad : (lines : List (List ℕ)) (tasks : List Task) (front rest : List InputLine) → map task_in lines ≡ map Some tasks → map Whole lines ≡ front ++ rest → IsBadFirst rest → ⊥
none_bad [] tasks [] [] are same bad = bad
none_bad [] tasks [] (line ∷ rest) are same bad = absurd cc
none_bad (line ∷ lines) tasks [] [] are same bad = bad
none_bad (line ∷ lines) [] [] (Whole other ∷ rest) are same bad = absurd cc
none_bad (line ∷ lines) (t ∷ tasks) [] (Whole other ∷ rest) are same bad =
    let here : line ≡ other = cc in
    let asks : task_in line ≡ Some t = cc in
    let both : None ≡ Some t = sym bad ∙ ap task_in (sym here) ∙ asks in
    absurd cc
none_bad (line ∷ lines) tasks [] (TooLong ∷ rest) are same bad = absurd cc
none_bad [] tasks (one ∷ front) rest are same bad = absurd cc
none_bad (line ∷ lines) [] (one ∷ front) rest are same bad = absurd cc
none_bad (line ∷ lines) (t ∷ tasks) (one ∷ front) rest are same bad =
    let others : map task_in lines ≡ map Some tasks = cc in
    let behind : map Whole lines ≡ front ++ rest = cc in
    none_bad lines tasks front rest others behind bad

pub bad_is_never_done : (status : Status) (asked : List Request) (number : ℕ) (lines : List ℕ → List InputLine) (typed before after : Option (List ℕ))
    → RanLines status asked number lines typed before after → (b : List ℕ) → typed ≡ Some b → HasBadLine (lines b) → status ≢ statuses.Done
bad_is_never_done status asked number lines typed before after ran b was bad = λ done.
    let counted : AsksLines asked number (lines b) [] = subst (λ (s : Status). AnswersLines s asked number (lines b)) done (ran.answered b was) in
    let all : Asks asked (lines b) [] = counted.0 in
    none_bad all.lines all.tasks bad.0 bad.1 all.tasks_are (sym (append-nil (map Whole all.lines)) ∙ sym all.before_is ∙ bad.2) bad.3
