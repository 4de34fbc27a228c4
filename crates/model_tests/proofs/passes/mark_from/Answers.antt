use Rattle.std.proofs.Common.{◌≡◌, sym, subst, ⊎_elim, inl, inr}
use Rattle.cry_base.specs.Sets.{In}
use Rattle.rekey_walk.proofs.Planning.{marked_is}
use Rattle.model_tests.proofs.passes.mark_from.Goals as goal

pub returns-clause-ok : goal.returns-clause-ok
returns-clause-ok c =
    let dirty = c.args.dirty.now in
    let reached = c.in_ok-reached.reached.items in
    let same : c.in_ok-marked.marked ≡ dirty = c.in_ok-marked.ensures in
    let slice : c.as_slice-reached.result.now ≡ reached = c.as_slice-reached.ensures in
    marked_is dirty c.args.edges.now c.args.target reached c.extend.new.self c.in_ok-extend.ensures.ascending c.in_ok-reached.ensures.reached
    (λ r i. c.in_ok-extend.ensures.kept r (subst (In r) (sym same) i))
    (λ r i. ⊎_elim (λ o. inl (subst (In r) same o)) (λ t. inr (subst (In r) slice t)) (c.in_ok-extend.ensures.added r i))
    (λ r i. c.in_ok-extend.ensures.all r (subst (In r) (sym slice) i))
