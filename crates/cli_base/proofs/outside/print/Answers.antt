use Rattle.std.proofs.Common.{◌++◌, take, drop, arith, sym, ap, ◌∙◌}
use Rattle.std.proofs.lemmas.Grind.{common_steps}
use Rattle.std.proofs.Math.Seq.{take-add}
use Rattle.cry_io.proofs.ToldLemmas.{told_again}
use Rattle.cli_base.proofs.OutsideLemmas.{put_twice, take-all, take-rest}
use Rattle.cli_base.proofs.outside.print.Goals as goal

pub returns-in_default-clause-bytes : goal.returns-in_default-clause-bytes
returns-in_default-clause-bytes g c = λ x y was is.
    let written = g.W.Sink.written in
    let again = told_again (written c.args.out.now) (written c.loop-done.out) x c.loop-done.invariant.told was in (
      c.loop-done.done,
      c.loop-done.invariant.within,
      c.in_default.ensures.bytes again.0 y again.1 is ∙ c.loop-done.invariant.bytes x again.0 was again.1,
    )

pub loop-done-preserved : goal.loop-done-preserved
loop-done-preserved g c = record {
  within = grind (arith, common_steps);
  told = c.in-Ok.ensures.told ∙ c.loop-done.invariant.told;
  bytes = λ x y was is.
      let written = g.W.Sink.written in
      let again = told_again (written c.args.out.now) (written c.loop-done.out) x c.loop-done.invariant.told was in
      let front = take c.loop-done.done c.args.piece.now in
      let next = take c.in-Ok.n (drop c.loop-done.done c.args.piece.now) in
      put_twice x front again.0 next y
      (c.loop-done.invariant.bytes x again.0 was again.1)
      (c.in-Ok.ensures.bytes again.0 y again.1 is ∙ ap (λ r. again.0 ++ r) (take-rest c.loop-done.done c.in-Ok.n c.args.piece.now))
      ∙ ap (λ r. x ++ r) (sym (take-add c.loop-done.done c.in-Ok.n c.args.piece.now));
  counts = omega (arith, c.loop-done.invariant.counts, c.in-Ok.ensures.counts);
}

pub returns-clause-bytes : goal.returns-clause-bytes
returns-clause-bytes g c = λ x y was is.
    c.loop-done.invariant.bytes x y was is
    ∙ ap (λ r. x ++ r) (take-all c.loop-done.done c.args.piece.now (omega (arith, c.loop-done.invariant.within, c.loop-done-test.false)))
