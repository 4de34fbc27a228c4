use Rattle.std.proofs.Common.{◌+◌, ◌++◌, List, [], ◌∷◌, map, sym, ap, ◌∙◌, append_assoc, arith}
use Rattle.std.specs.List.{range_with_len}
use Rattle.std.proofs.lemmas.List.FromFn.{map-range_with_len_more}
use Rattle.cry_base.specs.declared.roles.Role.{Role}
use Rattle.role_graph.specs.Roles.{holder_role}
use Rattle.public_fold.proofs.standing_roles.push_holders.Goals as goal

pub loop-before-preserved : goal.loop-before-preserved
loop-before-preserved c =
    let n = c.loop-before.before in
    let start = c.args.all.now.items in
    let front = map holder_role (range_with_len 1 n) in
    let role = c.role_of_holder.result in
    c.in_ok-push.ensures.items
    ∙ ap (λ (l : List Role). l ++ role ∷ []) c.loop-before.invariant
    ∙ append_assoc start front (role ∷ [])
    ∙ ap (λ r. start ++ (front ++ r ∷ [])) c.role_of_holder.ensures
    ∙ ap (λ l. start ++ l) (sym (map-range_with_len_more holder_role 1 n (n + 1) (omega arith)))
