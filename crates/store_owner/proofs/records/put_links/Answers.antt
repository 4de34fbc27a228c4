use Rattle.std.proofs.Common.{sym, ap, ◌∙◌, arith}
use Rattle.journal_bytes.proofs.GivenKeys.{next_serial}
use Rattle.store_owner.proofs.RingRecords.{link_turn, links_all, next_held}
use Rattle.store_owner.proofs.records.put_links.Goals as goal

pub seal_link-link-requires-clause-held : goal.seal_link-link-requires-clause-held
seal_link-link-requires-clause-held c =
    next_held c.args.ring.now c.args.heads.now c.loop-head.head-index c.head-item.result c.loop-head-test.true c.head-item.is c.requires.held

pub loop-head-preserved : goal.loop-head-preserved
loop-head-preserved c = record {
  epoch = ap (λ x. x.epoch) c.seal_link-link.ensures.counter ∙ c.loop-head.invariant.epoch;
  count = omega (arith, c.loop-head.invariant.count, ap (λ x. x.count) c.seal_link-link.ensures.counter);
  room = omega (arith, c.loop-head.invariant.room, c.put_link.ensures.spare);
  spelled = c.put_link.ensures.spelled;
  so_far =
      link_turn c.args.ring.now c.loop-head.links.items c.put_link.new.links.items c.args.heads.now _ _ c.loop-head.head-index c.head-item.result c.seal_link-link.result _
      c.loop-head-test.true c.head-item.is c.put_link.ensures.links c.seal_link-link.ensures.link
      (next_serial c.seal_link-link.new.counter c.loop-head.counter c.seal_link-link.ensures.counter) c.loop-head.invariant.so_far;
}

pub returns-clause-links : goal.returns-clause-links
returns-clause-links c = sym (links_all _ _ c.args.heads.now _ c.loop-head.head-index c.loop-head-test.false) ∙ c.loop-head.invariant.so_far
