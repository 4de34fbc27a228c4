use Rattle.std.proofs.Common.{◌≤◌, ◌∷◌, [], List, length, map, subst, arith}
use Rattle.std.proofs.lemmas.List.{take_all}
use Rattle.std.proofs.lemmas.Result.{err_from_is_err_and}
use Rattle.log_visits.specs.Placing.{PlacedContent}
use Rattle.trail_audit.specs.Derived.{AreSeen, plain_seen}
use Rattle.trail_audit.proofs.Revealed.{all_opened_next, audit_next, content_fault_in, none_seen, one_of}
use Rattle.trail_audit.proofs.contents.see_contents.Goals as goal

pub loop-found-init : goal.loop-found-init
loop-found-init c = none_seen c.args.known.now.keys.items (map plain_seen c.args.seen.now.items)

pub loop-found-preserved : goal.loop-found-preserved
loop-found-preserved c =
    let contents = c.args.contents.now in
    let keys = c.args.known.now.keys.items in
    let i = c.loop-found.found-index in
    let found = c.found-item.result in
    record {
      opened = all_opened_next contents i found keys c.loop-found-test.true c.found-item.is c.loop-found.invariant.opened (c.in_ok-see_under.ensures.opened keys c.requires.grouped);
      shown = audit_next contents i found keys (map plain_seen c.args.seen.now.items) (map plain_seen c.loop-found.seen.items) (map plain_seen c.see_under.new.seen.items) c.loop-found-test.true c.found-item.is
          c.loop-found.invariant.shown (c.in_ok-see_under.ensures.seen keys c.requires.grouped);
    }

pub returns-clause-seen : goal.returns-clause-seen
returns-clause-seen c =
    let past : length c.args.contents.now ≤ c.loop-found.found-index = omega (arith, c.loop-found-test.false) in
    subst (λ (cs : List PlacedContent). AreSeen c.args.known.now.keys.items cs (map plain_seen c.args.seen.now.items) (map plain_seen c.loop-found.seen.items)) (take_all c.loop-found.found-index c.args.contents.now past) c.loop-found.invariant

pub returns-in_err-see_under-clause-fault : goal.returns-in_err-see_under-clause-fault
returns-in_err-see_under-clause-fault c =
    let p = err_from_is_err_and c.from_residual.result c.from_residual.ensures.1 in
    let keys = c.args.known.now.keys.items in
    let found = c.found-item.result in
    rw (p.1, p.2) (content_fault_in (found ∷ []) c.args.contents.now keys keys c.in_err-see_under.field-0.0 (one_of c.args.contents.now c.loop-found.found-index found c.loop-found-test.true c.found-item.is) (λ k i. i)
    (c.in_err-see_under.ensures.fault keys c.requires.grouped))
