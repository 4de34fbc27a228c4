use Rattle.std.proofs.Common.{◌<◌, ◌≤◌, length, ap, arith}
use Rattle.closure_laws.proofs.Searching.{found_all, found_first, found_next, nothing_found, reads}
use Rattle.closure_laws.proofs.trail_search.all_found.Goals as goal

pub loop-done-init : goal.loop-done-init
loop-done-init c = record {
  found = found_first c.args.links.now c.args.to.0 c.new-found.result.items c.push.new.self.items c.new-found.ensures c.in_ok-push.ensures.items;
  open_groups = c.in_ok-groups.ensures c.push.new.self.items;
}

pub loop-done-preserved : goal.loop-done-preserved
loop-done-preserved c =
    let found = c.loop-done.found.items in
    let done = c.loop-done.done in
    let within : done < length found = omega (arith, c.loop-done-test.true, ap length c.as_slice.ensures) in
    let links = c.args.links.now in
    let b = c.args.to.0 in
    let at = reads found done nothing_found within in
    record {
      found = found_next links b done found c.follow_back.new.found.items _ at c.in_ok-follow_back.ensures.kept
          (c.in_ok-follow_back.ensures.chained links b c.loop-done.invariant.open_groups c.loop-done.invariant.found.chained)
          (c.in_ok-follow_back.ensures.closed links c.loop-done.invariant.open_groups _ at)
          c.loop-done.invariant.found;
      open_groups = c.in_ok-follow_back.ensures.open links c.loop-done.invariant.open_groups;
    }

pub returns : goal.returns
returns c =
    let past : length c.loop-done.found.items ≤ c.loop-done.done = omega (arith, c.loop-done-test.false, ap length c.as_slice.ensures) in
    found_all c.args.links.now c.args.to.0 c.loop-done.done c.loop-done.found.items past c.loop-done.invariant.found
