use Rattle.std.proofs.Common.{◌∙◌}
use Rattle.std.proofs.lemmas.Result.{IfOk-weaker}
use Rattle.command_plan.proofs.FoundTargets.{room_told, text_told}
use Rattle.command_plan.proofs.texts.text_for.Goals as goal

pub returns-clause-text : goal.returns-clause-text
returns-clause-text c = IfOk-weaker c.text_to.result _ _ (λ text told. λ tree r found. told ∙ text_told tree c.args.names.now found) c.text_to.ensures.text

pub returns-clause-room : goal.returns-clause-room
returns-clause-room c = room_told c.text_to.result c.args.target.now c.text_to.ensures.room
