use Rattle.std.proofs.Common.{◌≤◌, ◌++◌, ◌∷◌, [], List, length, map, sym, ap, subst, ◌∙◌, arith}
use Rattle.std.proofs.lemmas.List.{append-nil, take_all}
use Rattle.std.proofs.lemmas.Result.{err_from_is_err_and}
use Rattle.chacha_seal.specs.Keys.{KeyParts}
use Rattle.trail_audit.specs.Derived.{IsOpened, content_shown, plain_seen}
use Rattle.trail_audit.proofs.Revealed.{content_fault_in, one_of, opened_next, shown_next}
use Rattle.trail_audit.proofs.contents.see_content.Goals as goal

pub loop-key-init : goal.loop-key-init
unfolding content_shown
loop-key-init c = record { opened = λ k i. absurd i; seen = sym (append-nil (map plain_seen c.args.seen.now.items)) }

pub loop-key-preserved : goal.loop-key-preserved
loop-key-preserved c =
    let keys = c.args.keys.now in
    let i = c.loop-key.key-index in
    let within = c.loop-key-test.true in
    record {
      opened = opened_next keys i c.key-item.result c.args.found.now within c.key-item.is c.loop-key.invariant.opened c.in_ok-see_with.ensures.opened;
      seen = shown_next keys i c.key-item.result c.args.found.now (map plain_seen c.args.seen.now.items) (map plain_seen c.loop-key.seen.items) (map plain_seen c.see_with.new.seen.items)
          within c.key-item.is c.loop-key.invariant.seen c.in_ok-see_with.ensures.seen;
    }

pub returns-clause-opened : goal.returns-clause-opened
returns-clause-opened c =
    let past : length c.args.keys.now ≤ c.loop-key.key-index = omega (arith, c.loop-key-test.false) in
    subst (λ (ks : List KeyParts). IsOpened ks c.args.found.now) (take_all c.loop-key.key-index c.args.keys.now past) c.loop-key.invariant.opened

pub returns-clause-seen : goal.returns-clause-seen
returns-clause-seen c =
    let past : length c.args.keys.now ≤ c.loop-key.key-index = omega (arith, c.loop-key-test.false) in
    c.loop-key.invariant.seen ∙ ap (λ (ks : List KeyParts). map plain_seen c.args.seen.now.items ++ content_shown ks c.args.found.now) (take_all c.loop-key.key-index c.args.keys.now past)

pub returns-in_err-see_with-clause-fault : goal.returns-in_err-see_with-clause-fault
returns-in_err-see_with-clause-fault c =
    let p = err_from_is_err_and c.from_residual.result c.from_residual.ensures.1 in
    let found = c.args.found.now in
    let key = c.key-item.result in
    rw (p.1, p.2) (content_fault_in (found ∷ []) (found ∷ []) (key ∷ []) c.args.keys.now c.in_err-see_with.field-0.0 (λ d i. i) (one_of c.args.keys.now c.loop-key.key-index key c.loop-key-test.true c.key-item.is) c.in_err-see_with.ensures.fault)
