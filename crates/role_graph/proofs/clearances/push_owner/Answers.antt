use Rattle.std.proofs.Common.{[], ◌∷◌, ◌++◌, ap, ◌∙◌}
use Rattle.cry_base.specs.declared.ids.FolderId.{FolderId}
use Rattle.cry_base.specs.declared.roles.Edge.{Edge}
use Rattle.cry_base.specs.declared.roles.Role.TheVariants.{Owner}
use Rattle.role_graph.specs.Edges.{edge}
use Rattle.role_graph.specs.Roles.{clear_of}
use Rattle.role_graph.proofs.AtClearances.{skipped, taken}
use Rattle.role_graph.proofs.clearances.push_owner.Goals as goal

pub returns-in_default : goal.returns-in_default
returns-in_default c = skipped c.args.found.now.items _ _ _ c.in_default.ensures.value

pub returns : goal.returns
returns c =
    c.in_ok-push.ensures.items ∙ ap (λ (e : Edge). c.args.found.now.items ++ e ∷ []) c.owner_to_clear.ensures
    ∙ taken c.args.found.now.items (λ (z : FolderId). edge 1 Owner (clear_of z.0)) _ _ c.in-Some.c c.in-Some.ensures.value
