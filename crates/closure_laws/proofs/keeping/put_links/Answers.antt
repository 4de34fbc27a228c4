use Rattle.std.proofs.Common.{◌+◌, ap, arith}
use Rattle.closure_laws.proofs.Searching.{held_next}
use Rattle.closure_laws.proofs.keeping.put_links.Goals as goal

pub loop-link-preserved : goal.loop-link-preserved
loop-link-preserved c = record {
  items = held_next c.args.payload c.args.links.now c.loop-link.link-index c.loop-link.number _ c.args.held.now.items c.loop-link.held.items c.put.new.self.items
      c.loop-link-test.true c.loop-link.invariant.number c.loop-link.invariant.items c.put.ensures.items;
  number = ap (λ n. n + 1) c.loop-link.invariant.number;
  room = omega (arith, c.loop-link.invariant.room, c.put.ensures.spare);
}
