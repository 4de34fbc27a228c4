use Rattle.std.proofs.Common.{◌≡◌, ◌++◌, List, sym, ◌∙◌, subst, inl, inr, ⊎_elim}
use Rattle.std.proofs.lemmas.Result.{IfOk-weaker}
use Rattle.cry_base.specs.Listed.{Listed}
use Rattle.cry_base.specs.Sets.{In}
use Rattle.cry_base.specs.declared.roles.Role.{Role}
use Rattle.role_graph.specs.Ascending.{ascending}
use Rattle.public_fold.proofs.StrictLists.{both_listed, plan_alone}
use Rattle.public_fold.proofs.lists.with_strict.Goals as goal

pub returns-then-is_empty : goal.returns-then-is_empty
returns-then-is_empty c = plan_alone c.args.strict.now c.args.planned.items (sym c.is_empty.ensures ∙ c.if-is_empty.true) c.requires

pub returns : goal.returns
returns c =
    let all = c.extend-2.new.self in
    let mid = c.extend.new.self in
    let planned = c.args.planned.items in
    IfOk-weaker c.to_list.result (λ (l : Listed Role). l.items ≡ all) (λ (l : Listed Role). l.items ≡ ascending (c.args.strict.now ++ planned))
    (λ l e. e ∙ both_listed c.new-all.result c.args.strict.now planned mid all c.new-all.ensures c.to_list.ensures.ascending
    (λ r i. c.in_ok-extend.ensures.added r i) (λ r i. c.in_ok-extend.ensures.all r i)
    (λ r i. c.in_ok-extend-2.ensures.kept r i)
    (λ r i. ⊎_elim (λ m. inl m) (λ p. inr (subst (λ (l : List Role). In r l) c.as_slice.ensures p)) (c.in_ok-extend-2.ensures.added r i))
    (λ r i. c.in_ok-extend-2.ensures.all r (subst (λ (l : List Role). In r l) (sym c.as_slice.ensures) i)))
    c.to_list.ensures.roles
