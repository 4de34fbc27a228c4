use Rattle.rekey_walk.proofs.Marking.{plan_told}
use Rattle.rekey_walk.proofs.laws.plans_are_by_paths.Goals as goal

pub returns : goal.returns
returns c = plan_told
