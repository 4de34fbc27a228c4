use Rattle.script_text.proofs.CommandLines.{command_told, command_found, one_command}
use Rattle.script_text.proofs.laws.commands_are_spelled.Goals as goal

pub returns-clause-one : goal.returns-clause-one
returns-clause-one c = one_command

pub returns-clause-read : goal.returns-clause-read
returns-clause-read c = λ line request. (command_told line request, command_found line request)
