use Rattle.std.proofs.Common.{◌≡◌, List, filter, ap, ◌∙◌}
use Rattle.std.proofs.lemmas.Result.{IfOk-weaker}
use Rattle.cry_base.specs.Listed.{Listed}
use Rattle.cry_base.specs.Sets.{has}
use Rattle.cry_base.specs.declared.roles.Role.{Role}
use Rattle.role_graph.specs.Roles.{same_role}
use Rattle.rekey_walk.proofs.Planning.{common_is}
use Rattle.rekey_walk.proofs.dirty.common.Goals as goal

pub returns-then-as_slice : goal.returns-then-as_slice
returns-then-as_slice c =
    let dirty = c.args.dirty.now in
    let set = c.args.set.now in
    let slice = c.as_slice-then-as_slice.result.now in
    IfOk-weaker c.those_in.result (λ (l : Listed Role). l.items ≡ filter (has same_role c.dirty.inside.roles) slice)
    (λ (l : Listed Role). l.items ≡ filter (has same_role set) dirty)
    (λ l e. e ∙ ap (λ (d : List Role). filter (has same_role d) slice) c.dirty.view_is
    ∙ ap (λ (s : List Role). filter (has same_role dirty) s) c.as_slice-then-as_slice.ensures.roles
    ∙ common_is set dirty c.as_slice-then-as_slice.ensures.ascending c.as_slice-2.ensures.ascending) c.those_in.ensures
