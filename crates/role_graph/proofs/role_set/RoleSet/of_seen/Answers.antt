use Rattle.std.proofs.Common.{◌≡◌, ◌++◌, List, sym, ap, ◌∙◌, subst, append-nil}
use Rattle.std.proofs.lemmas.Map.Iter.{rest_all}
use Rattle.std.specs.Map.Iter.{deref}
use Rattle.cry_base.specs.declared.roles.Role.{Role}
use Rattle.role_graph.specs.Ascending.{IsAscending}
use Rattle.role_graph.proofs.Seeing.{seen_ascends}
use Rattle.role_graph.proofs.role_set.RoleSet.of_seen.Goals as goal

pub invariant_of-result : goal.invariant_of-result
invariant_of-result c =
    let items = c.loop-role.roles.items in
    let rest = rest_all (deref {X = Role}) c.loop-role.role-iterator c.next.new.self c.next.result c.in-None.is c.next.ensures.steps in
    let whole : items ≡ c.args.seen.now.keys = sym (append-nil items) ∙ ap (λ (l : List Role). items ++ l) (sym rest) ∙ c.loop-role.invariant in
    subst IsAscending (sym whole) (seen_ascends c.args.seen.now.keys c.into_iter-role-iterator.ensures.into_iter_gives.4)
