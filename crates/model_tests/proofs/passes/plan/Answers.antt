use Rattle.std.proofs.Common.{◌≡◌, List, filter, ap, ◌∙◌}
use Rattle.std.proofs.lemmas.Result.{IfOk-weaker}
use Rattle.cry_base.specs.Sets.{has}
use Rattle.cry_base.specs.declared.roles.Role.{Role}
use Rattle.role_graph.specs.Roles.{same_role}
use Rattle.rekey_walk.specs.Dirty.{plan}
use Rattle.rekey_walk.proofs.Planning.{planned_is}
use Rattle.model_tests.proofs.passes.plan.Goals as goal

pub returns : goal.returns
returns c =
    let dirty = c.args.dirty.now in
    let es = c.args.edges.now in
    let wanted = c.args.wanted.now in
    let leading = c.in_ok-leading.leading in
    IfOk-weaker c.those_in.result (λ l. l.items ≡ filter (has same_role leading) c.as_slice.result.now) (λ l. l.items ≡ plan dirty es wanted)
    (λ l e. e ∙ ap (λ (d : List Role). filter (has same_role leading) d) c.as_slice.ensures.roles
    ∙ planned_is dirty es wanted leading c.as_slice.ensures.ascending c.in_ok-leading.ensures) c.those_in.ensures
