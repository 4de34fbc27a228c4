use Rattle.std.proofs.Common.{Err, ap, ◌∙◌}
use Rattle.std.proofs.lemmas.Result.{IfOk-weaker}
use Rattle.group_book.proofs.Told.{refused_told}
use Rattle.group_book.proofs.expanding.commands_for.Goals as goal

pub returns-in-Err-NoHolder : goal.returns-in-Err-NoHolder
returns-in-Err-NoHolder c = IfOk-weaker c.refused_one.result _ _
    (λ l told. λ s is. told ∙ refused_told c.args.shape.now.tree c.args.names.now c.args.grants.now s c.args.holder.0
    (c.expand.ensures.no_holder.0 (c.in-Err-NoHolder.is ∙ ap (λ why. Err why) c.in-Err-NoHolder.field-0-is)) is)
    c.refused_one.ensures
