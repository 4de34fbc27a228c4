use Rattle.std.proofs.Common.{sym, ap, ◌∙◌, arith}
use Rattle.journal_bytes.proofs.GivenKeys.{after_all, next_serial, not_the_owner, turn}
use Rattle.store_owner.proofs.records.give_keys.Goals as goal

pub give_key-requires-clause-no_owner : goal.give_key-requires-clause-no_owner
give_key-requires-clause-no_owner c =
    not_the_owner c.args.heads.now c.loop-i.i c.index-heads-i.result c.head.inside.role c.head.inside.serial.0 c.loop-i-test.true c.index-heads-i.is c.head.view_is c.requires.no_owner

pub loop-i-preserved : goal.loop-i-preserved
loop-i-preserved c = record {
  epoch = ap (λ x. x.epoch) c.give_key.ensures.counter ∙ c.loop-i.invariant.epoch;
  count = omega (arith, c.loop-i.invariant.count, ap (λ x. x.count) c.give_key.ensures.counter);
  room = omega (arith, c.loop-i.invariant.room, c.give_key.ensures.spare);
  so_far = λ r.
      turn c.loop-i.ring c.give_key.new.ring _ _ c.args.heads.now c.args.drawn.now c.loop-i.i c.index-heads-i.result c.head.inside.role c.head.inside.serial.0 _ r _
      c.loop-i-test.true (omega (arith, c.requires.drawn, c.loop-i-test.true)) c.index-heads-i.is c.head.view_is (next_serial c.give_key.new.counter c.loop-i.counter c.give_key.ensures.counter) (c.give_key.ensures.keys r) (c.loop-i.invariant.so_far r);
}

pub returns-clause-keys : goal.returns-clause-keys
returns-clause-keys c = λ r.
    sym (after_all _ _ c.args.heads.now c.args.drawn.now r c.loop-i.i c.loop-i-test.false) ∙ c.loop-i.invariant.so_far r
