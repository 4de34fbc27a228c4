-- A line of `run` is read as what it asks for, and no other line as one.
use Rattle.std.proofs.Common.{◌≡◌, ℕ, List, Option, Some, None, Result, Ok, Err, refl, sym, ap, subst, ◌∙◌}
use Rattle.std.specs.Prelude.{codes, option_map, ◌↔◌, IfOk}
use Rattle.std.proofs.lemmas.Option.{same_Some}
use Rattle.cry_base.specs.Requests.{Request}
use Rattle.cry_base.specs.Requests.Request.{AddHolder, MakeFolder, WriteFile, Remove, Rename, Relocate, Grant, Revoke}
use Rattle.script_text.specs.Commands.{IsCommandLine, request_in}
use Rattle.script_text.specs.Reading.{behind, number_of}
use Rattle.script_text.specs.Tasks.{IsTaskLine, ReadsTask, Task, task_behind, task_in, task_of}
use Rattle.script_text.specs.Tasks.Task.{Does, Replaces}
use Rattle.script_text.specs.declared.fault.LineFault.{LineFault}
use Rattle.script_text.specs.declared.fault.LineFault.TheVariants.{BadLine, OutOfMemory}
use Rattle.script_text.specs.declared.tasks.LineTask.{LineTask}
use Rattle.script_text.proofs.CommandLines.{asked_for, command_found, command_told, map_some}
use Rattle.script_text.proofs.Fields.{behind_found, behind_told}
use Rattle.script_text.proofs.Numbers.{number_found, number_told}

-- what is read is what the line asks for
task_told_behind : (line : List ℕ) (task : Task) (at : Option (List ℕ)) → behind (codes "replace ") line ≡ at → task_behind at line ≡ Some task → IsTaskLine line task
task_told_behind line task (Some number) at is =
    let found = map_some Replaces (number_of number) task is in
    subst (IsTaskLine line) found.2
    (record { number = number; spelled = behind_told (codes "replace ") line number at; is_number = number_told number found.0 found.1 })
task_told_behind line task None at is =
    let found = map_some Does (request_in line) task is in
    subst (IsTaskLine line) found.2 (command_told line found.0 found.1)

pub task_told : (line : List ℕ) (task : Task) → task_in line ≡ Some task → IsTaskLine line task
unfolding task_in
task_told line task is = task_told_behind line task (behind (codes "replace ") line) refl is

-- no command's line begins so
not_replaced : (line : List ℕ) (request : Request) → IsCommandLine line request → behind (codes "replace ") line ≡ None
unfolding behind
not_replaced line AddHolder is = ap (behind (codes "replace ")) is
not_replaced line (MakeFolder path) is = ap (behind (codes "replace ")) is.spelled
not_replaced line (WriteFile path bytes) is = ap (behind (codes "replace ")) is.spelled
not_replaced line (Remove path) is = ap (behind (codes "replace ")) is.spelled
not_replaced line (Rename path name) is = ap (behind (codes "replace ")) is.spelled
not_replaced line (Relocate path into) is = ap (behind (codes "replace ")) is.spelled
not_replaced line (Grant holder path) is = ap (behind (codes "replace ")) is.spelled
not_replaced line (Revoke holder path) is = ap (behind (codes "replace ")) is.spelled

-- a line of `run` is read
pub task_found : (line : List ℕ) (task : Task) → IsTaskLine line task → task_in line ≡ Some task
unfolding task_in
task_found line (Does request) is =
    ap (λ at. task_behind at line) (not_replaced line request is) ∙ ap (option_map Does) (command_found line request is)
task_found line (Replaces holder) is =
    ap (λ at. task_behind at line) (ap (behind (codes "replace ")) is.spelled ∙ behind_found (codes "replace ") is.number)
    ∙ ap (option_map Replaces) (number_found is.number holder is.is_number)

pub one_task : (line : List ℕ) (one other : Task) → IsTaskLine line one → IsTaskLine line other → one ≡ other
one_task line one other is_one is_other = same_Some one other (sym (task_found line one is_one) ∙ task_found line other is_other)

-- what an answer says of the line
pub ok_told : (line : List ℕ) (r : Result LineTask LineFault) → ReadsTask r (task_in line) → IfOk r (λ task. IsTaskLine line (task_of task))
ok_told line (Ok task) reads = task_told line (task_of task) reads
ok_told line (Err fault) reads = tt

pub bad_line_told : (line : List ℕ) (r : Result LineTask LineFault) → ReadsTask r (task_in line) → (r ≡ Err BadLine) ↔ ((task : Task) → ¬ IsTaskLine line task)
bad_line_told line (Ok task) reads = (λ is other spelled. cc, λ none. absurd (none (task_of task) (task_told line (task_of task) reads)))
bad_line_told line (Err BadLine) reads = (λ is task spelled. let found = task_found line task spelled in cc, λ none. refl)
bad_line_told line (Err OutOfMemory) reads = (
  λ is task spelled. cc,
  λ none. let asked = asked_for (task_in line) reads in absurd (none asked.0 (task_told line asked.0 asked.1)),
)
