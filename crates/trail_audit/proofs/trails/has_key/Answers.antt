use Rattle.std.proofs.Common.{◌≡◌, ◌∷◌, List, [], take, ⊎_elim, refl, sym, subst, ◌∙◌}
use Rattle.std.proofs.lemmas.Bool.{false≢true}
use Rattle.chacha_seal.specs.Keys.{KeyParts}
use Rattle.cry_base.specs.Sets.{In}
use Rattle.cry_base.proofs.Members.{In-append}
use Rattle.role_graph.proofs.Rising.{get_or-In}
use Rattle.trail_audit.proofs.Revealed.{next_taken}
use Rattle.trail_audit.proofs.trails.has_key.Goals as goal

pub returns-then-equals : goal.returns-then-equals
returns-then-equals c =
    let keys = c.args.keys.now in
    (λ t. subst (λ (k : KeyParts). In k keys) (sym c.known-item.is ∙ c.equals.ensures.0 c.if-equals.true) (get_or-In KeyParts keys c.loop-known.known-index c.known-item.result c.loop-known-test.true), λ i. refl)

pub loop-known-preserved : goal.loop-known-preserved
loop-known-preserved c = λ there.
    let keys = c.args.keys.now in
    let key = c.args.key.now in
    let known = c.known-item.result in
    let i = c.loop-known.known-index in
    ⊎_elim (λ (j : In key (take i keys)). c.loop-known.invariant j)
    (λ (j : In key (known ∷ [])). ⊎_elim (λ (e : key ≡ known). false≢true (sym c.if-equals.false ∙ c.equals.ensures.1 (sym e))) (λ n. n) j)
    ((In-append KeyParts key (take i keys) (known ∷ [])).0 (subst (λ (ks : List KeyParts). In key ks) (next_taken keys i known c.loop-known-test.true c.known-item.is) there))
