use Rattle.script_text.proofs.TurnLines.{ok_told, bad_line_told}
use Rattle.script_text.proofs.seats.read_turn.Goals as goal

pub returns-clause-found : goal.returns-clause-found
returns-clause-found c = ok_told c.args.bytes.now c.turn_in.result c.turn_in.ensures

pub returns-clause-bad_line : goal.returns-clause-bad_line
returns-clause-bad_line c = bad_line_told c.args.bytes.now c.turn_in.result c.turn_in.ensures
