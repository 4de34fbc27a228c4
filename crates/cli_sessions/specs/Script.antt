-- The lines of `run` behind the first, answered one after another. This project's own, docs/PROGRAM.md, "The program".
use Rattle.std.specs.Prelude.{◌≡◌, ◌≢◌, ◌⊎◌, ◌<◌, ◌≤◌, ◌+◌, ℕ, Bool, true, false, List, [], ◌∷◌, ◌++◌, length, take, map}
use Rattle.std.specs.Prelude.{Option, Some, None, Result, Ok, Err, codes}
use Rattle.std.specs.List.{flat_map}
use Rattle.commit_journal.specs.Holding.{IsPrefix}
use Rattle.cry_base.specs.declared.commands.Reply.{Reply}
use Rattle.cry_base.specs.declared.commands.Reply.TheVariants.{Refused}
use Rattle.cry_base.specs.Requests.{Request}
use Rattle.cry_base.specs.Requests.Request.{Revoke}
use Rattle.cry_io.specs.Told.{WhereBothTold}
use Rattle.cli_base.specs.Lines.{InputLine, LineState, lines_ahead}
use Rattle.cli_base.specs.Lines.InputLine.{Whole, TooLong}
use Rattle.cli_sessions.specs.Taking.{TakenBy}
use Rattle.cli_sessions.specs.declared.script.ScriptFault.{ScriptFault}
use Rattle.cli_sessions.specs.declared.script.ScriptFault.TheVariants as script
use Rattle.group_book.specs.Replacing.{replacement}
use Rattle.script_text.specs.Printing.{spell_reply}
use Rattle.script_text.specs.Tasks.{Task, task_in, task_of}
use Rattle.script_text.specs.Tasks.Task.{Does, Replaces}
use Rattle.script_text.specs.declared.tasks.LineTask.{LineTask}
use Rattle.store_owner.specs.declared.apply_fault.ApplyFault.{ApplyFault}

-- a line is bad that asks for nothing, or goes past the limit
abbrev pub IsBadFirst : List InputLine → Type 0
IsBadFirst [] = ⊥
IsBadFirst (Whole line ∷ lines) = task_in line ≡ None
IsBadFirst (TooLong ∷ lines) = Unit {0}

-- what the next line asks for is given, or there is no line more; a bad line has the next number
abbrev pub GivesTask : Result (Option LineTask) ScriptFault → List InputLine → List InputLine → Type 0
GivesTask (Ok (Some task)) before after = (line : List ℕ) × (before ≡ Whole line ∷ after) × (task_in line ≡ Some (task_of task))
GivesTask (Ok None) before after = (before ≡ []) × (after ≡ [])
GivesTask (Err (script.BadLine line)) before after = IsBadFirst before
GivesTask (Err script.ReadFault) before after = after ≡ before
GivesTask (Err script.OutOfMemory) before after = Unit {0}
GivesTask (Err _) before after = ⊥

-- only a line that asks for something is counted, and takes some of the room
abbrev pub CountsTask : Result (Option LineTask) ScriptFault → LineState → LineState → Type 0
CountsTask (Ok (Some task)) old new = (new.given ≡ old.given + 1) × (new.room < old.room)
CountsTask (Err (script.BadLine line)) old new = line ≡ old.given + 1
CountsTask _ old new = Unit {0}

-- a fault of reading the next line
abbrev pub IsReading : ScriptFault → Type 0
IsReading (script.BadLine line) = Unit {0}
IsReading script.ReadFault = Unit {0}
IsReading script.OutOfMemory = Unit {0}
IsReading _ = ⊥

-- the count of faults never falls, and ReadFault comes only where it rose
abbrev pub ReadsByCount : {U : Type 0} → Result U ScriptFault → ℕ → ℕ → Type 0
ReadsByCount (Err script.ReadFault) old new = old < new
ReadsByCount _ old new = old ≤ new

-- and WriteFault only where that of the output rose
abbrev pub WritesByCount : {U : Type 0} → Result U ScriptFault → ℕ → ℕ → Type 0
WritesByCount (Err script.WriteFault) old new = old < new
WritesByCount _ old new = old ≤ new

-- a command may come, unless the last one met a fault
abbrev pub StaysReady : {U : Type 0} → Type 0 → Result U ScriptFault → Type 0
StaysReady Ready (Err (script.Applying fault)) = Unit {0}
StaysReady Ready _ = Ready

-- what is printed to these replies, each a line
abbrev pub spell_replies : List Reply → List ℕ
spell_replies replies = flat_map spell_reply replies

-- a command was applied and its reply printed; after a write fault a front of it is, and without memory nothing
abbrev pub AnswersOne : {X : Type 0} → (X → Request → Reply → X → Type 0) → (X → Request → ApplyFault → X → Type 0) →
    Result Reply ScriptFault → X → Request → X → Option (List ℕ) → Option (List ℕ) → Type 0
AnswersOne Step Fails (Ok reply) x request y before after = Step x request reply y
    × WhereBothTold before after (λ b a. a ≡ b ++ spell_reply reply)
AnswersOne Step Fails (Err script.WriteFault) x request y before after =
    (reply : Reply) × Step x request reply y × WhereBothTold before after (λ b a. (n : ℕ) × (a ≡ b ++ take n (spell_reply reply)))
AnswersOne Step Fails (Err script.OutOfMemory) x request y before after = (reply : Reply) × Step x request reply y × (after ≡ before)
AnswersOne Step Fails (Err (script.Applying fault)) x request y before after = Fails x request fault y × (after ≡ before)
AnswersOne Step Fails (Err _) x request y before after = ⊥

-- commands that were answered one after another, and the state after them
pub data Answered {X : Type 0} (Step : X → Request → Reply → X → Type 0) (start : X) : List Request → List Reply → X → Type 0 where
  Begun : Answered Step start [] [] start
  Then : {asked : List Request} {replies : List Reply} {x y : X} {request : Request} {reply : Reply} →
      Answered Step start asked replies x → Step x request reply y → Answered Step start (asked ++ request ∷ []) (replies ++ reply ∷ []) y

-- what the replacement of a holder stands for: a new holder, grants for it, and the same taken back; or, of a number that no holder has,
-- one command that is refused for that
abbrev pub IsReplacement : ℕ → List Request → Type 0
IsReplacement n commands =
    (commands ≡ Revoke n (codes "/") ∷ []) ⊎ ((new : ℕ) × (paths : List (List ℕ)) × (commands ≡ replacement new n paths))

-- a line asks for these commands: its one, or the first of those that a replacement of the holder stands for
abbrev pub AsksFor : Task → List Request → Type 0
AsksFor (Does request) block = block ≡ request ∷ []
AsksFor (Replaces n) block = (block ≢ []) × (commands : List Request) × IsReplacement n commands × IsPrefix block commands

-- one for one
abbrev pub AskFor : List Task → List (List Request) → Type 0
AskFor [] [] = Unit {0}
AskFor (task ∷ tasks) (block ∷ blocks) = AsksFor task block × AskFor tasks blocks
AskFor (task ∷ tasks) [] = ⊥
AskFor [] (block ∷ blocks) = ⊥

-- the commands of lines, one after another
abbrev pub commands_in : List (List Request) → List Request
commands_in blocks = flat_map (λ block. block) blocks

-- the first of these lines ask for this, and then come the others
pub record Asks (asked : List Request) (before after : List InputLine) : Type 0 where
  pub lines : List (List ℕ)
  pub tasks : List Task
  pub blocks : List (List Request)
  pub before_is : before ≡ map Whole lines ++ after
  pub tasks_are : map task_in lines ≡ map Some tasks
  pub asks_for : AskFor tasks blocks
  pub asked_are : asked ≡ commands_in blocks

-- so they do, with each line's task and commands
abbrev pub AskThese : List Task → List (List Request) → List Request → List InputLine → List InputLine → Type 0
AskThese tasks blocks asked before after = (asks : Asks asked before after) × (asks.tasks ≡ tasks) × (asks.blocks ≡ blocks)

-- how the state came about: by what was asked and answered, and a fault's last command changed it as the fault says
abbrev pub Stands : {X : Type 0} → (X → Request → Reply → X → Type 0) → (X → Request → ApplyFault → X → Type 0) →
    Result (Unit {0}) ScriptFault → X → List Request → List Reply → X → Type 0
Stands {X} Step Fails (Err (script.Applying fault)) start asked replies end =
    (x : X) × (first : List Request) × (last : Request) × (asked ≡ first ++ last ∷ []) × Answered Step start first replies x
    × Fails x last fault end
Stands {X} Step Fails _ start asked replies end = Answered Step start asked replies end

abbrev pub is_refusal : Reply → Bool
is_refusal (Refused why) = true
is_refusal _ = false

-- what a line stands for where it comes: its command, or those that the holder's replacement stands for there
abbrev pub StandsFor : {X : Type 0} → (X → ℕ → List Request → Type 0) → X → Task → List Request → Type 0
StandsFor Stand x (Does request) commands = commands ≡ request ∷ []
StandsFor Stand x (Replaces n) commands = Stand x n commands × IsReplacement n commands

-- Of these commands those up to the first that was refused were asked; where `cut` is true maybe the first of them alone, and the last one
-- may have no reply.
abbrev pub IsAsked : Bool → List Request → List Request → List Reply → Type 0
IsAsked cut [] [] replies = Unit {0}
IsAsked cut [] (asked ∷ block) replies = ⊥
IsAsked cut (command ∷ commands) [] replies = cut ≡ true
IsAsked cut (command ∷ commands) (asked ∷ block) [] = (asked ≡ command) × (block ≡ []) × (cut ≡ true)
IsAsked cut (command ∷ commands) (asked ∷ block) (Refused why ∷ replies) = (asked ≡ command) × (block ≡ [])
IsAsked cut (command ∷ commands) (asked ∷ block) (reply ∷ replies) = (asked ≡ command) × IsAsked cut commands block replies

-- one line was answered, or begun: what it stands for, what was asked of that, and how the state came about
pub record LineWent {X : Type 0} (Step : X → Request → Reply → X → Type 0) (Fails : X → Request → ApplyFault → X
    → Type 0) (Stand : X → ℕ → List Request → Type 0) (cut : Bool) (result : Result (Unit {0}) ScriptFault) (start : X) (task : Task)
    (block : List Request) (replies : List Reply) (end : X) : Type 0 where
  pub commands : List Request
  pub stands_for : StandsFor Stand start task commands
  pub asked : IsAsked cut commands block replies
  pub some_asked : block ≢ []
  pub stands : Stands Step Fails result start block replies end

-- lines that were answered one after another, each by the commands that it stood for where it came, up to the first that was refused
pub data Blocks {X : Type 0} (Step : X → Request → Reply → X → Type 0) (Fails : X → Request → ApplyFault → X
    → Type 0) (Stand : X → ℕ → List Request → Type 0) (start : X) : List Task → List (List Request) → List Reply → X → Type 0 where
  NoLine : Blocks Step Fails Stand start [] [] [] start
  OneMore : {tasks : List Task} {blocks : List (List Request)} {replies some : List Reply} {x y : X} {task : Task} {block : List Request} →
      Blocks Step Fails Stand start tasks blocks replies x → LineWent Step Fails Stand false (Ok tt) x task block some y
      → Blocks Step Fails Stand start (tasks ++ task ∷ []) (blocks ++ block ∷ []) (replies ++ some) y

-- and behind them one in which the lines ended
pub record EndsIn {X : Type 0} (Step : X → Request → Reply → X → Type 0) (Fails : X → Request → ApplyFault → X
    → Type 0) (Stand : X → ℕ → List Request → Type 0) (result : Result (Unit {0}) ScriptFault) (start : X)
    (tasks : List Task) (blocks : List (List Request)) (replies : List Reply) (end : X) : Type 0 where
  pub first_tasks : List Task
  pub first_blocks : List (List Request)
  pub first_replies : List Reply
  pub x : X
  pub first : Blocks Step Fails Stand start first_tasks first_blocks first_replies x
  pub task : Task
  pub block : List Request
  pub some : List Reply
  pub last : LineWent Step Fails Stand true result x task block some end
  pub tasks_are : tasks ≡ first_tasks ++ task ∷ []
  pub blocks_are : blocks ≡ first_blocks ++ block ∷ []
  pub replies_are : replies ≡ first_replies ++ some

-- all lines were answered that were begun, or there is a last one that may not have been answered to its end
abbrev pub GoesByLines : {X : Type 0} → (X → Request → Reply → X → Type 0) → (X → Request → ApplyFault → X → Type 0)
    → (X → ℕ → List Request → Type 0) → Result (Unit {0}) ScriptFault → X → List Task → List (List Request) → List Reply → X → Type 0
GoesByLines Step Fails Stand (Err script.WriteFault) start tasks blocks replies end =
    EndsIn Step Fails Stand (Err script.WriteFault) start tasks blocks replies end
GoesByLines Step Fails Stand (Err (script.Applying fault)) start tasks blocks replies end =
    EndsIn Step Fails Stand (Err (script.Applying fault)) start tasks blocks replies end
GoesByLines Step Fails Stand (Err script.OutOfMemory) start tasks blocks replies end =
    Blocks Step Fails Stand start tasks blocks replies end
    ⊎ EndsIn Step Fails Stand (Err script.OutOfMemory) start tasks blocks replies end
GoesByLines Step Fails Stand _ start tasks blocks replies end = Blocks Step Fails Stand start tasks blocks replies end

-- what lines were asked and answered, line by line, and how the state came about
pub record Went {X : Type 0} (Step : X → Request → Reply → X → Type 0) (Fails : X → Request → ApplyFault → X
    → Type 0) (Stand : X → ℕ → List Request → Type 0) (result : Result (Unit {0}) ScriptFault) (start end : X) : Type 0 where
  pub tasks : List Task
  pub blocks : List (List Request)
  pub asked : List Request
  pub asked_are : asked ≡ commands_in blocks
  pub replies : List Reply
  pub by_lines : GoesByLines Step Fails Stand result start tasks blocks replies end
  pub stands : Stands Step Fails result start asked replies end

-- what was asked and answered: all that was asked, but for the last command where that met a fault
abbrev pub answered_in : {X : Type 0} (Step : X → Request → Reply → X → Type 0) (Fails : X → Request → ApplyFault → X → Type 0)
    (Stand : X → ℕ → List Request → Type 0) (result : Result (Unit {0}) ScriptFault) (start end : X)
    → Went Step Fails Stand result start end → List Request
answered_in Step Fails Stand (Err (script.Applying fault)) start end went = went.stands.1
answered_in Step Fails Stand _ start end went = went.asked

-- how many lines were answered: all that were begun, but for the last one where a command of it met a fault
abbrev pub lines_in : {X : Type 0} (Step : X → Request → Reply → X → Type 0) (Fails : X → Request → ApplyFault → X → Type 0)
    (Stand : X → ℕ → List Request → Type 0) (result : Result (Unit {0}) ScriptFault) (start end : X)
    → Went Step Fails Stand result start end → ℕ
lines_in Step Fails Stand (Err (script.Applying fault)) start end went = length went.by_lines.first_tasks
lines_in Step Fails Stand _ start end went = length went.tasks

-- which lines were asked: all at the end; those before the bad one; those that were given before a fault
abbrev pub TakesLines : Result (Unit {0}) ScriptFault → List Task → List (List Request) → List Request → List InputLine → List InputLine
    → Type 0
TakesLines (Ok _) tasks blocks asked before after = AskThese tasks blocks asked before [] × (after ≡ [])
TakesLines (Err (script.BadLine line)) tasks blocks asked before after =
    (rest : List InputLine) × AskThese tasks blocks asked before rest × IsBadFirst rest
TakesLines (Err script.OutOfMemory) tasks blocks asked before after = (rest : List InputLine) × AskThese tasks blocks asked before rest
TakesLines (Err _) tasks blocks asked before after = AskThese tasks blocks asked before after

-- all replies were printed but a last one, of which a front was
abbrev pub PrintsCut : List Reply → List ℕ → List ℕ → Type 0
PrintsCut replies before after =
    (whole cut : List Reply) × (n : ℕ) × (replies ≡ whole ++ cut) × (length cut ≤ 1)
    × (after ≡ before ++ (spell_replies whole ++ take n (spell_replies cut)))

-- what was printed: each reply; after a write fault or without memory a front of it, without more than the last reply
abbrev pub PrintsReplies : Result (Unit {0}) ScriptFault → List Reply → List ℕ → List ℕ → Type 0
PrintsReplies (Err script.WriteFault) replies before after = PrintsCut replies before after
PrintsReplies (Err script.OutOfMemory) replies before after = PrintsCut replies before after
PrintsReplies _ replies before after = after ≡ before ++ spell_replies replies

-- the line that is bad is the one behind those that were asked
abbrev pub NumbersBad : Result (Unit {0}) ScriptFault → ℕ → Type 0
NumbersBad (Err (script.BadLine line)) next = line ≡ next
NumbersBad _ next = Unit {0}

-- commands were answered one after another up to the first that was refused, or to one that met the fault
pub record EachAnswered {X : Type 0} (Step : X → Request → Reply → X → Type 0) (Fails : X → Request → ApplyFault → X
    → Type 0) (cut : Bool) (result : Result (Unit {0}) ScriptFault) (start : X) (commands : List Request) (end : X)
    (before after : Option (List ℕ)) : Type 0 where
  pub block : List Request
  pub replies : List Reply
  pub asked : IsAsked cut commands block replies
  pub some_asked : commands ≢ [] → block ≢ []
  pub stands : Stands Step Fails result start block replies end
  pub printed : WhereBothTold before after (PrintsReplies result replies)

abbrev pub AnswersEach : {X : Type 0} → (X → Request → Reply → X → Type 0) → (X → Request → ApplyFault → X → Type 0)
    → Result (Unit {0}) ScriptFault → X → List Request → X → Option (List ℕ) → Option (List ℕ) → Type 0
AnswersEach Step Fails (Ok _) x commands y before after = EachAnswered Step Fails false (Ok tt) x commands y before after
AnswersEach Step Fails (Err script.OutOfMemory) x commands y before after =
    EachAnswered Step Fails true (Err script.OutOfMemory) x commands y before after
AnswersEach Step Fails (Err script.WriteFault) x commands y before after =
    EachAnswered Step Fails true (Err script.WriteFault) x commands y before after
AnswersEach Step Fails (Err (script.Applying fault)) x commands y before after =
    EachAnswered Step Fails true (Err (script.Applying fault)) x commands y before after
AnswersEach Step Fails (Err _) x commands y before after = ⊥

-- a line was answered, or begun; without memory maybe none of its commands was asked
pub record LineAnswered {X : Type 0} (Step : X → Request → Reply → X → Type 0) (Fails : X → Request → ApplyFault → X
    → Type 0) (Stand : X → ℕ → List Request → Type 0) (cut : Bool) (result : Result (Unit {0}) ScriptFault) (start : X) (task : Task)
    (end : X)
    (before after : Option (List ℕ)) : Type 0 where
  pub block : List Request
  pub replies : List Reply
  pub went : LineWent Step Fails Stand cut result start task block replies end
  pub printed : WhereBothTold before after (PrintsReplies result replies)

abbrev pub AnswersLine : {X : Type 0} → (X → Request → Reply → X → Type 0) → (X → Request → ApplyFault → X → Type 0)
    → (X → ℕ → List Request → Type 0) → Result (Unit {0}) ScriptFault → X → Task → X → Option (List ℕ) → Option (List ℕ) → Type 0
AnswersLine Step Fails Stand (Ok _) x task y before after = LineAnswered Step Fails Stand false (Ok tt) x task y before after
AnswersLine Step Fails Stand (Err script.OutOfMemory) x task y before after =
    (y ≡ x) × (after ≡ before) ⊎ LineAnswered Step Fails Stand true (Err script.OutOfMemory) x task y before after
AnswersLine Step Fails Stand (Err script.WriteFault) x task y before after =
    LineAnswered Step Fails Stand true (Err script.WriteFault) x task y before after
AnswersLine Step Fails Stand (Err (script.Applying fault)) x task y before after =
    LineAnswered Step Fails Stand true (Err (script.Applying fault)) x task y before after
AnswersLine Step Fails Stand (Err _) x task y before after = ⊥

-- What was asked and answered, what was taken of the input, and what was printed.
pub record Ran {X : Type 0} (Step : X → Request → Reply → X → Type 0) (Fails : X → Request → ApplyFault → X
    → Type 0) (Stand : X → ℕ → List Request → Type 0) (result : Result (Unit {0}) ScriptFault)
    (start end : X) (old new : LineState) (left_before left_after written_before written_after : Option (List ℕ)) : Type 0 where
  pub went : Went Step Fails Stand result start end
  pub lines : WhereBothTold left_before left_after
      (λ before after. TakesLines result went.tasks went.blocks went.asked (lines_ahead old before) (lines_ahead new after))
  pub number : NumbersBad result (old.given + length went.tasks + 1)
  pub taken : WhereBothTold left_before left_after (TakenBy result (length went.tasks) old new)
  pub printed : WhereBothTold written_before written_after (PrintsReplies result went.replies)
