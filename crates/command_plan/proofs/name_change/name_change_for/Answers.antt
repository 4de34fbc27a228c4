use Rattle.std.proofs.lemmas.Result.{IfOk-weaker}
use Rattle.command_plan.proofs.FoundTargets.{change_told}
use Rattle.command_plan.proofs.name_change.name_change_for.Goals as goal

pub returns : goal.returns
returns c = IfOk-weaker c.change_to.result _ _ (λ change told. λ r found. change_told c.args.shape.now.tree c.args.names.now change found told) c.change_to.ensures
