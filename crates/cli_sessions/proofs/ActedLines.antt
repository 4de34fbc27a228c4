-- What the owner of a store did of lines, whatever it stands for.
use Rattle.std.proofs.Common.{◌≡◌, ⊎_elim, inl, inr, ℕ, Bool, true, false, List, [], Option, Some, Result, Ok, Err, refl, subst}
use Rattle.std.specs.Prelude.{is_some}
use Rattle.cry_base.specs.Requests.{Request}
use Rattle.cry_base.specs.declared.commands.Reply.{Reply}
use Rattle.cry_io.proofs.ToldLemmas.{told_again}
use Rattle.store_owner.specs.declared.apply_fault.ApplyFault.{ApplyFault}
use Rattle.cli_base.specs.Lines.{InputLine, LineState, lines_ahead}
use Rattle.cli_base.specs.declared.status.Status.{Status}
use Rattle.cli_sessions.specs.Acting.{AnswersAt, FailsAt, OwnerRan, Place, StandsAt, place_of}
use Rattle.cli_sessions.specs.OwnerSteps.{AnswersIn, FailsIn, Scene, StandsIn}
use Rattle.cli_sessions.specs.Script.{Answered, AskThese, Blocks, EndsIn, GoesByLines, LineWent, Ran, Stands, StandsFor, Went, answered_in, lines_in}
use Rattle.cli_sessions.specs.Script.Answered.{Begun, Then}
use Rattle.cli_sessions.specs.Script.Blocks.{NoLine, OneMore}
use Rattle.cli_sessions.specs.Sessions.{ended_status}
use Rattle.cli_sessions.specs.declared.script.ScriptFault.{ScriptFault}
use Rattle.cli_sessions.specs.declared.script.ScriptFault.TheVariants as script
use Rattle.script_text.specs.Tasks.{Task}
use Rattle.script_text.specs.Tasks.Task.{Does, Replaces}

abbrev pub place_in : Scene → Place
place_in s = place_of s.owner s.left s.shown

module _ (X : Type 0) (scene : X → Scene) (leaves : X → List ℕ → Type 0) (since : X → ℕ → List ℕ → List ℕ → Type 0) (Step : X → Request → Reply → X → Type 0)
    (is : (x : X) (r : Request) (reply : Reply) (y : X) → Step x r reply y → AnswersIn (scene x) r reply (scene y) (leaves x) (leaves y) (since x) (since y))
    (Fails : X → Request → ApplyFault → X → Type 0)
    (fails : (x : X) (r : Request) (fault : ApplyFault) (y : X) → Fails x r fault y → FailsIn (scene x) r fault (scene y) (leaves x) (leaves y) (since x) (since y))
    (Stand : X → ℕ → List Request → Type 0) (so : (x : X) (n : ℕ) (commands : List Request) → Stand x n commands → StandsIn (scene x).owner n commands) where
  -- each command so
  answered : (start : X) (asked : List Request) (given : List Reply) (end : X) → Answered Step start asked given end → Answered AnswersAt (place_in (scene start)) asked given (place_in (scene end))
  answered start asked given end Begun = Begun
  answered start asked given end (Then {asked = rs} {replies = told} {x = x} {y = y} {request = r} {reply = reply} before step) =
      let one = is x r reply y step in
      Then (answered start rs told x before) (record { acts = one.acts; kept = one.kept })

  failed : (x : X) (r : Request) (fault : ApplyFault) (y : X) → Fails x r fault y → FailsAt (place_in (scene x)) r fault (place_in (scene y))
  failed x r fault y fails_so = let one = fails x r fault y fails_so in record { acts = one.acts; unwritten = one.unwritten; undrawn = one.undrawn; never_closed = one.never_closed }

  abbrev StandsSo : Result (Unit {0}) ScriptFault → X → List Request → List Reply → X → Type 0
  StandsSo result start asked given end = Stands AnswersAt FailsAt result (place_in (scene start)) asked given (place_in (scene end))

  stood : (result : Result (Unit {0}) ScriptFault) (start : X) (asked : List Request) (given : List Reply) (end : X) → Stands Step Fails result start asked given end → StandsSo result start asked given end
  stood (Ok tt) start asked given end stands = answered start asked given end stands
  stood (Err (script.BadLine line)) start asked given end stands = answered start asked given end stands
  stood (Err script.ReadFault) start asked given end stands = answered start asked given end stands
  stood (Err script.WriteFault) start asked given end stands = answered start asked given end stands
  stood (Err script.OutOfMemory) start asked given end stands = answered start asked given end stands
  stood (Err (script.Applying fault)) start asked given end stands =
      (place_in (scene stands.0), stands.1, stands.2, stands.3, answered start stands.1 given stands.0 stands.4, failed stands.0 stands.2 fault end stands.5)

  -- and each line
  stands_for : (x : X) (task : Task) (commands : List Request) → StandsFor Stand x task commands → StandsFor StandsAt (place_in (scene x)) task commands
  stands_for x (Does r) commands is = is
  stands_for x (Replaces n) commands is = (so x n commands is.0, is.1)

  line_went : (cut : Bool) (result : Result (Unit {0}) ScriptFault) (start : X) (task : Task) (block : List Request) (given : List Reply) (end : X)
      → LineWent Step Fails Stand cut result start task block given end → LineWent AnswersAt FailsAt StandsAt cut result (place_in (scene start)) task block given (place_in (scene end))
  line_went cut result start task block given end went = record {
    commands = went.commands;
    stands_for = stands_for start task went.commands went.stands_for;
    asked = went.asked;
    some_asked = went.some_asked;
    stands = stood result start block given end went.stands;
  }

  blocks : (start : X) (tasks : List Task) (bs : List (List Request)) (given : List Reply) (end : X) → Blocks Step Fails Stand start tasks bs given end
      → Blocks AnswersAt FailsAt StandsAt (place_in (scene start)) tasks bs given (place_in (scene end))
  blocks start tasks bs given end NoLine = NoLine
  blocks start tasks bs given end (OneMore {tasks = ts} {blocks = before} {replies = told} {some = some} {x = x} {y = y} {task = t} {block = b} first went) =
      OneMore (blocks start ts before told x first) (line_went false (Ok tt) x t b some y went)

  ends_in : (result : Result (Unit {0}) ScriptFault) (start : X) (tasks : List Task) (bs : List (List Request)) (given : List Reply) (end : X) → EndsIn Step Fails Stand result start tasks bs given end
      → EndsIn AnswersAt FailsAt StandsAt result (place_in (scene start)) tasks bs given (place_in (scene end))
  ends_in result start tasks bs given end ends = record {
    first_tasks = ends.first_tasks;
    first_blocks = ends.first_blocks;
    first_replies = ends.first_replies;
    x = place_in (scene ends.x);
    first = blocks start ends.first_tasks ends.first_blocks ends.first_replies ends.x ends.first;
    task = ends.task;
    block = ends.block;
    some = ends.some;
    last = line_went true result ends.x ends.task ends.block ends.some end ends.last;
    tasks_are = ends.tasks_are;
    blocks_are = ends.blocks_are;
    replies_are = ends.replies_are;
  }

  module _ (start end : X) where
    abbrev HasGone : Result (Unit {0}) ScriptFault → Type 0
    HasGone result = Went Step Fails Stand result start end

    abbrev GoesSo : Result (Unit {0}) ScriptFault → Type 0
    GoesSo result = Went AnswersAt FailsAt StandsAt result (place_in (scene start)) (place_in (scene end))

    by_lines : (result : Result (Unit {0}) ScriptFault) (went : HasGone result)
        → GoesByLines AnswersAt FailsAt StandsAt result (place_in (scene start)) went.tasks went.blocks went.replies (place_in (scene end))
    by_lines (Ok tt) went = blocks start went.tasks went.blocks went.replies end went.by_lines
    by_lines (Err (script.BadLine line)) went = blocks start went.tasks went.blocks went.replies end went.by_lines
    by_lines (Err script.ReadFault) went = blocks start went.tasks went.blocks went.replies end went.by_lines
    by_lines (Err script.WriteFault) went = ends_in (Err script.WriteFault) start went.tasks went.blocks went.replies end went.by_lines
    by_lines (Err script.OutOfMemory) went =
        ⊎_elim (λ all. inl (blocks start went.tasks went.blocks went.replies end all)) (λ ends. inr (ends_in (Err script.OutOfMemory) start went.tasks went.blocks went.replies end ends)) went.by_lines
    by_lines (Err (script.Applying fault)) went = ends_in (Err (script.Applying fault)) start went.tasks went.blocks went.replies end went.by_lines

    went_so : (result : Result (Unit {0}) ScriptFault) → HasGone result → GoesSo result
    went_so result went = record {
      tasks = went.tasks;
      blocks = went.blocks;
      asked = went.asked;
      asked_are = went.asked_are;
      replies = went.replies;
      by_lines = by_lines result went;
      stands = stood result start went.asked went.replies end went.stands;
    }

    asked_so : (result : Result (Unit {0}) ScriptFault) (went : HasGone result)
        → answered_in Step Fails Stand result start end went ≡ answered_in AnswersAt FailsAt StandsAt result (place_in (scene start)) (place_in (scene end)) (went_so result went)
    unfolding stood went_so
    asked_so (Ok tt) went = refl
    asked_so (Err (script.BadLine line)) went = refl
    asked_so (Err script.ReadFault) went = refl
    asked_so (Err script.WriteFault) went = refl
    asked_so (Err script.OutOfMemory) went = refl
    asked_so (Err (script.Applying fault)) went = refl

    counted_so : (result : Result (Unit {0}) ScriptFault) (went : HasGone result)
        → lines_in Step Fails Stand result start end went ≡ lines_in AnswersAt FailsAt StandsAt result (place_in (scene start)) (place_in (scene end)) (went_so result went)
    unfolding by_lines ends_in went_so
    counted_so (Ok tt) went = refl
    counted_so (Err (script.BadLine line)) went = refl
    counted_so (Err script.ReadFault) went = refl
    counted_so (Err script.WriteFault) went = refl
    counted_so (Err script.OutOfMemory) went = refl
    counted_so (Err (script.Applying fault)) went = refl

    module _ (old new : LineState) (typed left_after out_before out_after : Option (List ℕ)) (told : is_some left_after ≡ is_some typed) where
      abbrev HasRan : Result (Unit {0}) ScriptFault → Type 0
      HasRan result = Ran Step Fails Stand result start end old new typed left_after out_before out_after

      asks : (result : Result (Unit {0}) ScriptFault) (ran : HasRan result) → (b : List ℕ) → typed ≡ Some b
          → (rest : List InputLine) × AskThese ran.went.tasks ran.went.blocks ran.went.asked (lines_ahead old b) rest
      asks (Ok tt) ran b was = let after = told_again typed left_after b told was in ([], (ran.lines b after.0 was after.1).0)
      asks (Err (script.BadLine line)) ran b was = let after = told_again typed left_after b told was in let taken = ran.lines b after.0 was after.1 in (taken.0, taken.1)
      asks (Err script.ReadFault) ran b was = let after = told_again typed left_after b told was in (lines_ahead new after.0, ran.lines b after.0 was after.1)
      asks (Err script.WriteFault) ran b was = let after = told_again typed left_after b told was in (lines_ahead new after.0, ran.lines b after.0 was after.1)
      asks (Err script.OutOfMemory) ran b was = let after = told_again typed left_after b told was in let taken = ran.lines b after.0 was after.1 in (taken.0, taken.1)
      asks (Err (script.Applying fault)) ran b was = let after = told_again typed left_after b told was in (lines_ahead new after.0, ran.lines b after.0 was after.1)

      pub owner_ran : (result : Result (Unit {0}) ScriptFault) (ran : HasRan result)
          → OwnerRan (ended_status result) (answered_in Step Fails Stand result start end ran.went) (lines_in Step Fails Stand result start end ran.went) (lines_ahead old) typed
          (place_in (scene start)) (scene end).left (scene end).shown out_before out_after
      unfolding went_so
      owner_ran result ran = record {
        result = result;
        ends_so = refl;
        becomes = (scene end).owner;
        went = went_so result ran.went;
        asked_are = asked_so result ran.went;
        counted = counted_so result ran.went;
        asks = asks result ran;
        printed = ran.printed;
      }

-- the lines are those of another text, where that is told
pub owner_ran_in : (status : Status) (asked : List Request) (answered : ℕ) (some other : List ℕ → List InputLine) (told typed : Option (List ℕ)) (start : Place)
    (left shown written_before written_after : Option (List ℕ)) → ((b : List ℕ) → typed ≡ Some b → (a : List ℕ) × (told ≡ Some a) × (some a ≡ other b))
    → OwnerRan status asked answered some told start left shown written_before written_after → OwnerRan status asked answered other typed start left shown written_before written_after
owner_ran_in status asked answered some other told typed start left shown written_before written_after same ran = record {
  result = ran.result;
  ends_so = ran.ends_so;
  becomes = ran.becomes;
  went = ran.went;
  asked_are = ran.asked_are;
  counted = ran.counted;
  asks = λ b was.
      let a = same b was in
      let asks = ran.asks a.0 a.1 in
      (asks.0, subst (λ (lines : List InputLine). AskThese ran.went.tasks ran.went.blocks ran.went.asked lines asks.0) a.2 asks.1);
  printed = ran.printed;
}
