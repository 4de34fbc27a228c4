-- What `run` answers, prints and leaves: on every disk, and on one that shows a journal. This project's own,
-- docs/PROGRAM.md, "The program".
use Rattle.std.specs.Prelude.{◌≡◌, ◌≢◌, ◌≤◌, ◌⊎◌, ℕ, ◌+◌, ◌==◌, nat_lt, Bool, true, false, List, [], ◌∷◌, ◌++◌, length, Option}
use Rattle.std.specs.Prelude.{IsTrue, Some, None, Result, Ok, Err}
use Rattle.cry_base.specs.Requests.{Request}
use Rattle.cry_base.specs.declared.commands.Reply.{Reply}
use Rattle.cry_io.specs.Told.{WhereTold, WhereBothTold}
use Rattle.log_visits.specs.Asking.{verdict}
use Rattle.log_visits.specs.Asking.Asking.{ToWrite}
use Rattle.public_fold.specs.Journal.{Journal}
use Rattle.script_text.specs.Reading.{bundle_of}
use Rattle.journal_bytes.specs.Journals.{ShowsJournal}
use Rattle.cli_base.specs.Input.{owner_key}
use Rattle.cli_base.specs.Input.{TakesLines}
use Rattle.script_text.specs.Cutting.{IsOneLine}
use Rattle.cli_base.specs.Lines.{AreOfLines, InputLine, input_limit, lines_of}
use Rattle.cli_base.specs.Lines.InputLine.{Whole, TooLong}
use Rattle.cli_base.specs.World.{Senses, World}
use Rattle.cli_sessions.specs.Acting.{OwnerRan, place_of}
use Rattle.cli_sessions.specs.Opening.{HasOpened, IsOfVersion, Judges, LeavesUnopened}
use Rattle.cli_sessions.specs.Stopping.{KeepsUpTo}
use Rattle.cli_sessions.specs.Script.{Asks, IsBadFirst, PrintsCut, spell_replies}
use Rattle.cli_sessions.specs.declared.script.ScriptFault.{ScriptFault}
use Rattle.cli_sessions.specs.declared.script.ScriptFault.TheVariants as script
use Rattle.cli_base.specs.declared.status.Status.{Status}
use Rattle.cli_base.specs.declared.status.Status.TheVariants as statuses
use Rattle.cli_sessions.specs.Sessions.{Seen, Ends, version_limits}

-- the owner's key that the first line hands in, and the lines behind it
abbrev pub key_in_lines : List InputLine → Option (List ℕ)
key_in_lines [] = None
key_in_lines (Whole line ∷ lines) = owner_key (bundle_of line)
key_in_lines (TooLong ∷ lines) = None

abbrev pub lines_behind : List InputLine → List InputLine
lines_behind [] = []
lines_behind (line ∷ lines) = lines

-- the lines of a whole input
abbrev pub lines_in : List ℕ → List InputLine
lines_in typed = lines_of input_limit typed

-- the first line of a whole input hands in this key
abbrev pub HandsInFirst : List ℕ → List ℕ → Type 0
HandsInFirst typed key = key_in_lines (lines_in typed) ≡ Some key

-- how `run` may end
abbrev pub is_run_answer : Status → Bool
is_run_answer statuses.Done = true
is_run_answer statuses.Usage = false
is_run_answer (statuses.BadScript line) = true
is_run_answer statuses.ReadFault = true
is_run_answer statuses.WriteFault = true
is_run_answer statuses.DiskFault = true
is_run_answer statuses.RandomFault = true
is_run_answer (statuses.RandomShort left need) = true
is_run_answer statuses.NotAStore = true
is_run_answer (statuses.Damaged at) = true
is_run_answer statuses.WrongKey = true
is_run_answer (statuses.Tampered batch at) = true
is_run_answer statuses.OutOfMemory = true
is_run_answer statuses.NotBlank = false
is_run_answer (statuses.NoHolder known) = false
is_run_answer statuses.Unseen = false
is_run_answer statuses.NeedsUpgrade = true
is_run_answer statuses.AlreadyNew = false
is_run_answer (statuses.Behind have want) = false
is_run_answer (statuses.Forked batches) = false
is_run_answer statuses.BadProof = false

-- how it ends before it opens the store
abbrev pub is_before_opening : Status → Bool
is_before_opening (statuses.BadScript line) = line == 1
is_before_opening _ = false

-- the first line hands in this key, and the others are still to come; or it hands in none, and then it is line 1 that is bad
abbrev pub GivesOwner : Result (List ℕ) ScriptFault → List InputLine → List InputLine → Type 0
GivesOwner (Ok key) before after = (key_in_lines before ≡ Some key) × (after ≡ lines_behind before)
GivesOwner (Err (script.BadLine line)) before after = (key_in_lines before ≡ None) × (line ≡ 1)
GivesOwner (Err script.ReadFault) before after = after ≡ before
GivesOwner (Err script.OutOfMemory) before after = Unit {0}
GivesOwner (Err _) before after = ⊥

-- the line with the key is counted, and a bad one is the first
abbrev pub CountsOwner : Result (List ℕ) ScriptFault → ℕ → ℕ → Type 0
CountsOwner (Ok key) old new = new ≡ old + 1
CountsOwner (Err (script.BadLine line)) old new = line ≡ 1
CountsOwner (Err _) old new = Unit {0}

-- a first line that hands in no owner's key is bad, unless the input failed or memory was wanting first
abbrev pub FirstIsBad : Status → Type 0
FirstIsBad (statuses.BadScript line) = line ≡ 1
FirstIsBad statuses.ReadFault = Unit {0}
FirstIsBad statuses.OutOfMemory = Unit {0}
FirstIsBad _ = ⊥

-- how it ends once the store was opened, but for what may come before that too
abbrev pub is_after_opening : Status → Bool
is_after_opening statuses.Done = true
is_after_opening (statuses.BadScript line) = nat_lt 1 line
is_after_opening statuses.WriteFault = true
is_after_opening statuses.RandomFault = true
is_after_opening (statuses.RandomShort given need) = true
is_after_opening statuses.NeedsUpgrade = true
is_after_opening _ = false

-- what is answered, in the words of the verdict, to the bytes of a store under the key that the first line hands in
abbrev pub JudgesTyped : Status → List ℕ → List ℕ → Type 0
JudgesTyped status typed image = (key : List ℕ) → key_in_lines (lines_in typed) ≡ Some key → Judges status (verdict (ToWrite key) image)

-- which version a store is of, where its bytes stand for a journal with that key: an upgrade is asked for where it is the first, and there
-- alone; a line is answered where it is the second
abbrev pub TellsVersion : Status → Option (List ℕ) → Option (List ℕ) → Type 0
TellsVersion statuses.NeedsUpgrade typed shown = IsOfVersion HandsInFirst 1 typed shown
TellsVersion status typed shown = IsTrue (is_after_opening status) → IsOfVersion HandsInFirst 2 typed shown

-- how it ends for each journal with that key that the disk showed, with what a stop might leave before, at each moment since, and after
abbrev pub EndsTyped : Status → List Request → List ℕ → Seen → (List ℕ → Type 0) → (List ℕ → List ℕ → Type 0) → (List ℕ → Type 0) → Type 0
EndsTyped status asked typed seen could_leave since may_leave = (key : List ℕ) (m : Journal) → key_in_lines (lines_in typed) ≡ Some key
    → ShowsJournal key m seen.was
    → Ends status version_limits key m asked (lines_behind (lines_in typed)) seen may_leave
    (KeepsUpTo key m seen.was seen.shown could_leave since)

-- ---- on every disk

-- the lines behind the first, of a whole input
abbrev pub lines_typed : List ℕ → List InputLine
lines_typed typed = lines_behind (lines_in typed)

-- so many of these lines ask for this, and then come the others
abbrev pub AsksLines : List Request → ℕ → List InputLine → List InputLine → Type 0
AsksLines asked answered lines rest = (asks : Asks asked lines rest) × (length asks.lines ≡ answered)

-- the first lines ask for this and a command more, which is the next line's
abbrev pub AsksNext : List Request → ℕ → List InputLine → Type 0
AsksNext asked answered lines = (next : Request) × (rest : List InputLine) × AsksLines (asked ++ next ∷ []) (answered + 1) lines rest

-- how many lines were answered: none before the opening, nor in a store that needs an upgrade; and the bad line is the first of all, or the
-- one behind those that were answered
abbrev pub CountsAnswered : Status → List Request → ℕ → Type 0
CountsAnswered (statuses.BadScript line) asked answered = (line ≡ 1) × (asked ≡ []) × (answered ≡ 0) ⊎ (line ≡ answered + 2)
CountsAnswered statuses.NotAStore asked answered = (asked ≡ []) × (answered ≡ 0)
CountsAnswered statuses.WrongKey asked answered = (asked ≡ []) × (answered ≡ 0)
CountsAnswered (statuses.Damaged at) asked answered = (asked ≡ []) × (answered ≡ 0)
CountsAnswered (statuses.Tampered batch at) asked answered = (asked ≡ []) × (answered ≡ 0)
CountsAnswered statuses.NeedsUpgrade asked answered = (asked ≡ []) × (answered ≡ 0)
CountsAnswered _ asked answered = Unit {0}

-- which of these lines were answered: at Done all; before a bad one those before it; else the first ones. A fault of the random source, or
-- of the disk once the store was opened, met a command of the line behind them, of which the first commands may have been answered; so it
-- may be without memory.
abbrev pub AnswersLines : Status → List Request → ℕ → List InputLine → Type 0
AnswersLines statuses.Done asked answered lines = AsksLines asked answered lines []
AnswersLines (statuses.BadScript line) asked answered lines =
    (line ≡ 1) ⊎ ((rest : List InputLine) × AsksLines asked answered lines rest × IsBadFirst rest)
AnswersLines (statuses.RandomShort left need) asked answered lines = AsksNext asked answered lines
AnswersLines statuses.RandomFault asked answered lines = AsksNext asked answered lines
AnswersLines statuses.DiskFault asked answered lines = (asked ≡ []) × (answered ≡ 0) ⊎ AsksNext asked answered lines
AnswersLines statuses.OutOfMemory asked answered lines =
    ((rest : List InputLine) × AsksLines asked answered lines rest) ⊎ AsksNext asked answered lines
AnswersLines _ asked answered lines = (rest : List InputLine) × AsksLines asked answered lines rest

-- what was printed: each reply; after a write fault or without memory a front of it, without more than the last reply
abbrev pub PrintsAnswers : Status → List Reply → List ℕ → List ℕ → Type 0
PrintsAnswers statuses.WriteFault replies before after = PrintsCut replies before after
PrintsAnswers statuses.OutOfMemory replies before after = PrintsCut replies before after
PrintsAnswers _ replies before after = after ≡ before ++ spell_replies replies

-- The lines of a run: so many were answered, in their order, by these commands, each with one reply; and the replies are what was printed.
-- Each line asked for a command at least.
pub record RanLines (status : Status) (asked : List Request) (number : ℕ) (lines : List ℕ → List InputLine)
    (typed before after : Option (List ℕ)) : Type 0 where
  pub replies : List Reply
  pub one_each : length replies ≡ length asked
  pub within : number ≤ length asked
  pub counted : CountsAnswered status asked number
  pub answered : WhereTold typed (λ bytes. AnswersLines status asked number (lines bytes))
  pub printed : WhereBothTold before after (PrintsAnswers status replies)

-- the store wasn't opened: it ended before that, and no line was answered
pub record RunsUnopened {S R D W : Type 0} (see : Senses S R D W) (status : Status) (asked : List Request) (answered : ℕ)
    (before after : World S R D W) : Type 0 where
  pub left : LeavesUnopened HandsInFirst see status before after
  pub early : is_after_opening status ≡ false
  pub none_asked : asked ≡ []
  pub none_answered : answered ≡ 0

-- the store was opened; and then its owner went through the lines, where it isn't of version 1
pub record RunsOpened {S R D W : Type 0} (see : Senses S R D W) (status : Status) (asked : List Request) (answered : ℕ)
    (before after : World S R D W) : Type 0 where
  pub opened : HasOpened HandsInFirst statuses.NeedsUpgrade 2 see status before after
  pub ran : status ≢ statuses.NeedsUpgrade → OwnerRan status asked answered lines_typed (see.inputs.left before.input)
      (place_of opened.owner (see.randoms.left before.random) (see.disks.shown opened.opened)) (see.randoms.left after.random)
      (see.disks.shown after.disk) (see.outs.written before.out) (see.outs.written after.out)

-- some line among them is bad
abbrev pub HasBadLine : List InputLine → Type 0
HasBadLine lines = (front rest : List InputLine) × (lines ≡ front ++ rest) × IsBadFirst rest

-- ---- where the input failed

-- So many of these lines were answered, and no other had ended in what was taken of the input: it is of no more lines than were answered,
-- and of the front of the next one, within the limit. A bad line is told before more is read.
pub record ReadsWhole (asked : List Request) (answered : ℕ) (lines : List InputLine) (typed left : List ℕ) : Type 0 where
  pub given : List ℕ
  pub front : List ℕ
  pub room : ℕ
  pub taken : typed ≡ given ++ (front ++ left)
  pub of_lines : AreOfLines answered given
  pub one : IsOneLine front
  pub within : length front ≤ room
  pub asks : AsksLines asked answered lines (lines_of room (front ++ left))

-- so it is with the lines behind the first; or that one had not ended, and none was answered
abbrev pub ReadsWholeTyped : List Request → ℕ → List ℕ → List ℕ → Type 0
ReadsWholeTyped asked answered typed left =
    ((asked ≡ []) × (answered ≡ 0) × (front : List ℕ) × IsOneLine front × (length front ≤ input_limit) × (typed ≡ front ++ left))
    ⊎ ((first behind : List ℕ) × AreOfLines 1 first × (typed ≡ first ++ behind)
    × ReadsWhole asked answered (lines_typed typed) behind left)

-- ---- how much of the input was taken

-- the number of the line at which it ended, where so many behind the first were answered: the first, where no other was asked for; the bad
-- line; the one whose reply wasn't printed; or the one behind those that were answered. None where it read to the end, or nothing is said
abbrev pub line_ended : Status → ℕ → Option ℕ
line_ended statuses.Done answered = None
line_ended statuses.ReadFault answered = None
line_ended statuses.OutOfMemory answered = None
line_ended (statuses.BadScript line) answered = Some line
line_ended statuses.WriteFault answered = Some (answered + 1)
line_ended statuses.RandomFault answered = Some (answered + 2)
line_ended (statuses.RandomShort left need) answered = Some (answered + 2)
line_ended statuses.DiskFault answered = Some (answered + 2)
line_ended _ answered = Some 1

-- what was taken goes to that line's end, and little past it
abbrev pub TakesTo : Option ℕ → List ℕ → List ℕ → Type 0
TakesTo None typed left = Unit {0}
TakesTo (Some line) typed left = TakesLines line typed left

-- so it is for whatever line was taken before those that were to come
abbrev pub TakesBehindFirst : (List ℕ → List ℕ) → Option ℕ → List ℕ → List ℕ → Type 0
TakesBehindFirst ahead end before left = (front typed : List ℕ) → AreOfLines 1 front → typed ≡ front ++ ahead before
    → TakesTo end typed left
