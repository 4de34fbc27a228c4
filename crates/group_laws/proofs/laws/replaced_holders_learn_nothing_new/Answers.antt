use Rattle.group_laws.proofs.Learning.{learns_nothing}
use Rattle.group_laws.proofs.laws.replaced_holders_learn_nothing_new.Goals as goal

pub returns : goal.returns
returns c = learns_nothing
