use Rattle.std.proofs.Common.{◌-◌, ◌++◌, length, take, arith, sym, ap, ◌∙◌, length-drop, Ok}
use Rattle.std.proofs.lemmas.Grind.{common_steps}
use Rattle.std.proofs.lemmas.List.{length-take}
use Rattle.cry_io.proofs.ToldLemmas.{told_again}
use Rattle.store_owner.proofs.DrawLemmas.{take-filled, taken_twice, drawn_to_the_end, take-all}
use Rattle.store_owner.proofs.drawing.draw.Goals as goal

pub returns-in_default-clause-bytes : goal.returns-in_default-clause-bytes
returns-in_default-clause-bytes g c = λ x y was is.
    let left = g.R.Source.left in
    let again = told_again (left c.args.random.now) (left c.loop-have.random) x c.loop-have.invariant.told was in
    let front = take c.loop-have.have c.loop-have.buf in (
      front,
      c.loop-have.invariant.bytes x again.0 was again.1
          ∙ ap (λ r. front ++ r) (sym (c.in_default.ensures.bytes again.0 y again.1 is)),
    )

pub returns-then-n-eq0-clause-bytes : goal.returns-then-n-eq0-clause-bytes
returns-then-n-eq0-clause-bytes g c = λ x y was is.
    let left = g.R.Source.left in
    let again = told_again (left c.args.random.now) (left c.loop-have.random) x c.loop-have.invariant.told was in
    drawn_to_the_end c.loop-have.have c.in-Ok.n c.loop-have.buf c.read.new.buf x again.0 y
    c.loop-have.invariant.within
    c.if-n-eq0.true
    (c.loop-have.invariant.bytes x again.0 was again.1)
    (c.in-Ok.ensures.bytes again.0 y again.1 is)
    (c.in-Ok.ensures.at_end again.0 y again.1 is
    (simp (length-take, length-drop) (omega (arith, c.loop-have-test.true)))
    (ap (λ n. Ok n) c.if-n-eq0.true))

pub loop-have-preserved : goal.loop-have-preserved
loop-have-preserved g c = record {
  within = grind (arith, common_steps);
  told = c.in-Ok.ensures.told ∙ c.loop-have.invariant.told;
  bytes = λ x y was is.
      let left = g.R.Source.left in
      let again = told_again (left c.args.random.now) (left c.loop-have.random) x c.loop-have.invariant.told was in
      let front = take c.loop-have.have c.loop-have.buf in
      let next = take c.in-Ok.n c.read.new.buf in
      taken_twice x front again.0 next y
      (c.loop-have.invariant.bytes x again.0 was again.1)
      (c.in-Ok.ensures.bytes again.0 y again.1 is)
      ∙ ap (λ r. r ++ y) (sym (take-filled c.loop-have.have c.in-Ok.n (length c.loop-have.buf - c.loop-have.have) c.loop-have.buf c.read.new.buf c.loop-have.invariant.within (omega (arith, c.in-Ok.ensures.within, c.read.auto.buf))));
  counts = omega (arith, c.loop-have.invariant.counts, c.in-Ok.ensures.counts);
}

pub returns-clause-bytes : goal.returns-clause-bytes
returns-clause-bytes g c = λ x y was is.
    c.loop-have.invariant.bytes x y was is
    ∙ ap (λ r. r ++ y) (take-all c.loop-have.have c.loop-have.buf (omega (arith, c.loop-have.invariant.within, c.loop-have-test.false)))
