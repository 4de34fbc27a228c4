use Rattle.std.proofs.Common.{◌<◌, ◌≡◌, length, arith}
use Rattle.closure_laws.proofs.Searching.{leads_to_first, leads_to_next, next_within, nothing_found, reads}
use Rattle.closure_laws.proofs.trail_search.trail_from.Goals as goal

pub loop-at-preserved : goal.loop-at-preserved
loop-at-preserved c =
    let found = c.args.found.now in
    let at = c.loop-at.at in
    let one = reads found at nothing_found c.loop-at.invariant.within in
    let less = next_within found at _ (omega (arith, c.loop-at-test.true)) one c.requires.chained in
    record {
      within = omega (arith, less, c.loop-at.invariant.within);
      trail = leads_to_next found c.args.place at _ c.loop-at.trail.items c.push.new.self.items (omega (arith, c.loop-at-test.true)) one c.in_ok-push.ensures.items c.loop-at.invariant.trail;
    }

pub returns : goal.returns
returns c =
    let some : 0 < length c.args.found.now = omega (arith, c.requires.place) in
    let first : c.loop-at.at ≡ 0 = omega (arith, c.loop-at-test.false) in
    leads_to_first c.args.found.now c.args.place c.loop-at.at c.loop-at.trail.items first some c.loop-at.invariant.trail
