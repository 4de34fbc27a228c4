use Rattle.std.proofs.Common.{arith}
use Rattle.store_gen.proofs.Lines.{one_more, none_more}
use Rattle.store_gen.proofs.generating.put_drawn.Goals as goal

pub loop-line-preserved : goal.loop-line-preserved
loop-line-preserved c = record {
  ready = c.draw-change.ensures.ready;
  lines = one_more c.args.count c.loop-line._line c.loop-line.generator c.draw-change.new.self c.draw-change.result c.loop-line.out.items c.put_line.new.out.items _
      (omega arith) c.draw-change.ensures.change c.draw-change.ensures.state c.in_ok-put_line.ensures c.loop-line.invariant.lines;
}

pub returns : goal.returns
returns c = none_more c.args.count c.loop-line._line c.loop-line.generator c.loop-line.out.items _ (omega arith) c.loop-line.invariant.lines
