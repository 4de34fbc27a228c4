use Rattle.script_text.proofs.TaskLines.{task_told, task_found, one_task}
use Rattle.script_text.proofs.laws.tasks_are_spelled.Goals as goal

pub returns-clause-one : goal.returns-clause-one
returns-clause-one c = one_task

pub returns-clause-read : goal.returns-clause-read
returns-clause-read c = λ line task. (task_told line task, task_found line task)
