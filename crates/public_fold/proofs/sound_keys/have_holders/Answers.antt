use Rattle.std.proofs.Common.{◌≡◌, ◌≢◌, ◌+◌, ◌<◌, ◌≤◌, ℕ, false, ⊎_elim, sym, ◌∙◌, subst, arith}
use Rattle.std.specs.Prelude.{IsTrue}
use Rattle.std.proofs.lemmas.Bool.{cases_eq, false≢true}
use Rattle.cry_base.specs.Sets.{has}
use Rattle.role_graph.specs.Roles.{holder_role, same_role}
use Rattle.public_fold.proofs.sound_keys.have_holders.Goals as goal

pub returns-then-not-has : goal.returns-then-not-has
unfolding holder_role
returns-then-not-has c =
    let within : c.loop-before.before < c.args.count = c.loop-before-test.true in
    (λ t. absurd (false≢true t), λ all. sym (sym c.has.ensures ∙ c.if-not-has.true) ∙ all (c.loop-before.before + 1) (omega arith) (omega (arith, within)))

pub loop-before-preserved : goal.loop-before-preserved
unfolding holder_role
loop-before-preserved c = λ h low high.
    ⊎_elim
    (λ (same : h ≡ c.loop-before.before + 1). subst (λ (n : ℕ). IsTrue (has same_role c.args.keyed.now (holder_role n))) (sym same) (sym c.has.ensures ∙ c.if-not-has.false))
    (λ (other : h ≢ c.loop-before.before + 1). c.loop-before.invariant h low (omega (arith, high, other)))
    (cases_eq h (c.loop-before.before + 1))
