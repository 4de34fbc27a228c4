use Rattle.script_text.proofs.CommandLines.{ok_told, bad_line_told, no_memory_told}
use Rattle.script_text.proofs.commands.read_line.Goals as goal

pub returns-clause-found : goal.returns-clause-found
returns-clause-found c = ok_told c.args.bytes.now c.command_in.result c.command_in.ensures.reads

pub returns-clause-bad_line : goal.returns-clause-bad_line
returns-clause-bad_line c = bad_line_told c.args.bytes.now c.command_in.result c.command_in.ensures.reads

pub returns-clause-no_memory : goal.returns-clause-no_memory
returns-clause-no_memory c = no_memory_told c.args.bytes.now c.command_in.result c.command_in.ensures.reads
