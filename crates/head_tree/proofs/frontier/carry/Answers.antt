use Rattle.std.proofs.Common.{◌<◌, ◌≤◌, length, [], refl, sym, ◌∙◌, subst}
use Rattle.std.proofs.lemmas.List.{set-get_or}
use Rattle.head_tree.proofs.Growth.{carried-here, carried-on, carried-past}
use Rattle.head_tree.proofs.frontier.carry.Goals as goal

pub loop-place-init : goal.loop-place-init
loop-place-init c = (refl, refl)

pub returns-then-left-eq0 : goal.returns-then-left-eq0
returns-then-left-eq0 c =
    let roots = c.loop-place.roots in
    let inside : c.loop-place.place-index < length roots
    = subst (λ l. c.loop-place.place-index < length l) (sym c.loop-place.invariant.0) c.loop-place-test.true in
    sym (c.loop-place.invariant.1 ∙ carried-here roots c.loop-place.place-index c.loop-place.left c.loop-place.joined inside c.if-left-eq0.true)

pub loop-place-preserved : goal.loop-place-preserved
loop-place-preserved c =
    let roots = c.loop-place.roots in
    let inside : c.loop-place.place-index < length roots
    = subst (λ l. c.loop-place.place-index < length l) (sym c.loop-place.invariant.0) c.loop-place-test.true in
    let on = c.loop-place.invariant.1
    ∙ carried-on roots c.loop-place.place-index c.loop-place.left c.loop-place.joined inside c.if-left-eq0.false in
    rw (set-get_or roots c.loop-place.place-index [], c.node_hash-joined.ensures) (c.loop-place.invariant.0, on)

pub returns : goal.returns
returns c =
    let roots = c.loop-place.roots in
    let past : length roots ≤ c.loop-place.place-index
    = subst (λ l. length l ≤ c.loop-place.place-index) (sym c.loop-place.invariant.0) c.loop-place-test.false in
    sym (c.loop-place.invariant.1 ∙ carried-past roots c.loop-place.place-index c.loop-place.left c.loop-place.joined past)
