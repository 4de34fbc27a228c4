use Rattle.script_text.proofs.TaskLines.{ok_told, bad_line_told}
use Rattle.script_text.proofs.tasks.read_task.Goals as goal

pub returns-clause-found : goal.returns-clause-found
returns-clause-found c = ok_told c.args.bytes.now c.task_in.result c.task_in.ensures

pub returns-clause-bad_line : goal.returns-clause-bad_line
returns-clause-bad_line c = bad_line_told c.args.bytes.now c.task_in.result c.task_in.ensures
