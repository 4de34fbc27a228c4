use Rattle.store_gen.proofs.Commands.{script_line, script_read}
use Rattle.store_gen.proofs.Lines.{length-requests}
use Rattle.store_gen.proofs.Newlines.{script_one_line}
use Rattle.store_gen.proofs.ScriptLengths.{script_short}
use Rattle.store_gen.proofs.laws.lines_are_commands.Goals as goal

pub returns : goal.returns
returns c = record { spelled = script_line; one_line = script_one_line; read = script_read; length = length-requests; bytes = script_short }
