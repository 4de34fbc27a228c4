use Rattle.script_text.proofs.TurnLines.{turn_told, turn_found, one_turn}
use Rattle.script_text.proofs.laws.turns_are_spelled.Goals as goal

pub returns-clause-one : goal.returns-clause-one
returns-clause-one c = one_turn

pub returns-clause-read : goal.returns-clause-read
returns-clause-read c = λ line turn. (turn_told line turn, turn_found line turn)
