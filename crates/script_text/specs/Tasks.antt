-- Lines of `run` that are read: a command's, or one that asks for the replacement of a holder. This project's own, docs/PROGRAM.md, "Lines".
use Rattle.std.specs.Prelude.{◌≡◌, ℕ, List, ◌++◌, Option, Some, None, IsSome, Result, Ok, Err, codes, option_map}
use Rattle.cry_base.specs.Requests.{Request, request_of}
use Rattle.script_text.specs.Commands.{IsCommandLine, request_in}
use Rattle.script_text.specs.Reading.{IsNumber, behind, number_of}
use Rattle.script_text.specs.declared.fault.LineFault.{LineFault}
use Rattle.script_text.specs.declared.fault.LineFault.TheVariants.{BadLine, OutOfMemory}
use Rattle.script_text.specs.declared.tasks.LineTask.{LineTask}
use Rattle.script_text.specs.declared.tasks.LineTask.TheVariants as line

-- what a line asks for
pub data Task : Type 0 where
  Does : (request : Request) → Task
  Replaces : (holder : ℕ) → Task

-- what a task of the code asks for
abbrev pub task_of : LineTask → Task
task_of (line.Does command) = Does (request_of command)
task_of (line.Replaces holder) = Replaces holder.0

-- `replace N`
pub record IsReplaceLine (line : List ℕ) (holder : ℕ) : Type 0 where
  pub number : List ℕ
  pub spelled : line ≡ codes "replace " ++ number
  pub is_number : IsNumber number holder

-- the line, without its newline, is one of `run`, and asks for this
abbrev pub IsTaskLine : List ℕ → Task → Type 0
IsTaskLine line (Does request) = IsCommandLine line request
IsTaskLine line (Replaces holder) = IsReplaceLine line holder

-- the replacement that the number behind the word asks for, and a command where the word is another
abbrev pub task_behind : Option (List ℕ) → List ℕ → Option Task
task_behind (Some number) line = option_map Replaces (number_of number)
task_behind None line = option_map Does (request_in line)

-- what a line asks for, and none where it is no line of `run`
unfoldable pub task_in : List ℕ → Option Task
task_in line = task_behind (behind (codes "replace ") line) line

-- the answer to a line that asks for this: only a line that asks for something may find no memory
abbrev pub ReadsTask : Result LineTask LineFault → Option Task → Type 0
ReadsTask (Ok task) asked = asked ≡ Some (task_of task)
ReadsTask (Err BadLine) asked = asked ≡ None
ReadsTask (Err OutOfMemory) asked = IsSome asked
