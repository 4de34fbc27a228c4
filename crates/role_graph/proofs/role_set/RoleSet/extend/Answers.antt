use Rattle.std.proofs.Common.{get_or, sym, ◌∙◌, subst, ⊎_elim, inl, inr}
use Rattle.std.proofs.lemmas.List.{take_all}
use Rattle.cry_base.specs.Sets.{In}
use Rattle.cry_base.specs.declared.roles.Role.{Role}
use Rattle.cry_base.specs.declared.roles.Role.TheVariants.{Owner}
use Rattle.role_graph.proofs.Rising.{kept_more, added_more, all_more, in_front}
use Rattle.role_graph.proofs.role_set.RoleSet.extend.Goals as goal

pub returns-in_err-insert-clause-kept : goal.returns-in_err-insert-clause-kept
returns-in_err-insert-clause-kept c = λ r i.
    subst (In r) (sym c.in_err-insert.ensures.err) (c.loop-role.invariant.kept r (subst (In r) (sym (c.in_ok-reserve.ensures.items ∙ c.self.view_is)) i))

pub returns-in_err-insert-clause-added : goal.returns-in_err-insert-clause-added
returns-in_err-insert-clause-added c = λ r i. ⊎_elim
    (λ o. inl (subst (In r) (c.in_ok-reserve.ensures.items ∙ c.self.view_is) o))
    (λ t. inr (in_front Role r c.loop-role.role-index c.args.roles.now t))
    (c.loop-role.invariant.added r (subst (In r) c.in_err-insert.ensures.err i))

pub loop-role-preserved : goal.loop-role-preserved
loop-role-preserved c =
    let roles = c.args.roles.now in
    let i = c.loop-role.role-index in
    let old = c.reserve.new.self.items in
    let before = c.loop-role.self in
    let new = c.insert.new.self in
    record {
      kept = kept_more (get_or roles i Owner) old before new c.in_ok-insert.ensures.ok c.loop-role.invariant.kept;
      added = added_more roles i Owner c.loop-role-test.true old before new c.in_ok-insert.ensures.ok c.loop-role.invariant.added;
      all = all_more roles i Owner c.loop-role-test.true before new c.in_ok-insert.ensures.ok c.loop-role.invariant.all;
      ascending = c.in_ok-insert.ensures.ascending;
    }

pub returns-clause-kept : goal.returns-clause-kept
returns-clause-kept c = λ r i. c.loop-role.invariant.kept r (subst (In r) (sym (c.in_ok-reserve.ensures.items ∙ c.self.view_is)) i)

pub returns-clause-added : goal.returns-clause-added
returns-clause-added c = λ r i. ⊎_elim
    (λ o. inl (subst (In r) (c.in_ok-reserve.ensures.items ∙ c.self.view_is) o))
    (λ t. inr (in_front Role r c.loop-role.role-index c.args.roles.now t))
    (c.loop-role.invariant.added r i)

pub returns-clause-all : goal.returns-clause-all
returns-clause-all c = λ r i. c.loop-role.invariant.all r (subst (In r) (sym (take_all c.loop-role.role-index c.args.roles.now c.loop-role-test.false)) i)
