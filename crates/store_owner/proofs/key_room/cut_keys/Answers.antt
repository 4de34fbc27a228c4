use Rattle.std.proofs.Common.{◌∙◌, ap, arith, length, ◌+◌}
use Rattle.store_owner.proofs.KeyDraws.{length-snoc, joined_more, keys_more}
use Rattle.store_owner.proofs.key_room.cut_keys.Goals as goal

pub loop-i-preserved : goal.loop-i-preserved
loop-i-preserved c = record {
  counted = ap length c.put.ensures.items ∙ length-snoc c.loop-i.drawn.items c.key_at.result ∙ ap (λ n. n + 1) c.loop-i.invariant.counted;
  room = omega (arith, c.put.ensures.spare, c.loop-i.invariant.room);
  sizes = keys_more c.loop-i.drawn.items c.put.new.self.items c.key_at.result c.put.ensures.items c.loop-i.invariant.sizes c.key_at.ensures.long;
  bytes = joined_more c.loop-i.drawn.items c.put.new.self.items c.key_at.result c.args.bytes.now c.loop-i.i c.put.ensures.items c.loop-i.invariant.bytes c.key_at.ensures.bytes;
}
