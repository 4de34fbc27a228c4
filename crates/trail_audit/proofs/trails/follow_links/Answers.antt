use Rattle.std.proofs.Common.{◌≤◌, length, arith}
use Rattle.std.proofs.lemmas.Result.{err_from_is_err_and}
use Rattle.trail_audit.proofs.Followed.{grown_by_all, grown_by_next, grown_by_none, tag_fault_in}
use Rattle.trail_audit.proofs.trails.follow_links.Goals as goal

pub loop-found-init : goal.loop-found-init
loop-found-init c = record { grown = grown_by_none c.args.key.now c.args.known.now.keys.items; grouped = c.requires.grouped }

pub loop-found-preserved : goal.loop-found-preserved
loop-found-preserved c = record {
  grown =
      grown_by_next c.args.links.now c.loop-found.found-index c.found-item.result c.args.key.now c.args.known.now.keys.items c.loop-found.known.keys.items c.follow_link.new.known.keys.items
      c.loop-found-test.true c.found-item.is c.loop-found.invariant.grown c.in_ok-follow_link.ensures.grown;
  grouped = c.in_ok-follow_link.ensures.grouped;
}

pub returns-in_err-follow_link-clause-fault : goal.returns-in_err-follow_link-clause-fault
returns-in_err-follow_link-clause-fault c =
    let p = err_from_is_err_and c.from_residual.result c.from_residual.ensures.1 in
    rw (p.1, p.2) (tag_fault_in c.args.links.now c.loop-found.found-index c.found-item.result c.args.key.now c.in_err-follow_link.field-0.0 c.loop-found-test.true c.found-item.is c.in_err-follow_link.ensures.fault)

pub returns-clause-grown : goal.returns-clause-grown
returns-clause-grown c =
    let past : length c.args.links.now ≤ c.loop-found.found-index = omega (arith, c.loop-found-test.false) in
    grown_by_all c.args.links.now c.loop-found.found-index c.args.key.now c.args.known.now.keys.items c.loop-found.known.keys.items past c.loop-found.invariant.grown
