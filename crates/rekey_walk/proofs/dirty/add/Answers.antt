use Rattle.std.proofs.Common.{◌≡◌, sym, ◌∙◌, subst, ⊎_elim, inl, inr}
use Rattle.cry_base.specs.Sets.{In}
use Rattle.rekey_walk.proofs.dirty.add.Goals as goal

pub returns-clause-ok : goal.returns-clause-ok
returns-clause-ok c =
    let dirty = c.args.dirty.now in
    let same : c.in_ok-marked.marked ≡ dirty = c.in_ok-marked.ensures ∙ c.dirty.view_is in
    let slice : c.as_slice-roles.result.now ≡ c.args.roles.now = c.as_slice-roles.ensures.roles in
    record {
      ascending = c.in_ok-extend.ensures.ascending;
      kept = λ r i. c.in_ok-extend.ensures.kept r (subst (In r) (sym same) i);
      added = λ r i. ⊎_elim (λ o. inl (subst (In r) same o)) (λ t. inr (subst (In r) slice t)) (c.in_ok-extend.ensures.added r i);
      all = λ r i. c.in_ok-extend.ensures.all r (subst (In r) (sym slice) i);
    }
