use Rattle.store_gen.proofs.Stood.{script_stands}
use Rattle.store_gen.proofs.laws.scripts_leave_what_the_rule_has.Goals as goal

pub returns : goal.returns
returns c = script_stands
