use Rattle.std.proofs.Common.{◌∙◌, arith}
use Rattle.head_tree.proofs.Rising.{IsLow, low, rose_left}
use Rattle.head_tree.proofs.climb.Climb.pass_lefts.Goals as goal

pub peak-requires : goal.peak-requires
peak-requires c =
    let first = c.requires.0 in
    let can = c.requires.1.1 in
    let kept = c.loop-self.invariant first c.requires.1.0 can in
    let is_low : IsLow c.loop-self.self c.args.peaks.now.roots =
    low c.loop-self.self c.args.peaks.now.roots first c.requires.1.0 (omega (arith, c.loop-self-test.true)) (omega (arith, can.more, can.few)) kept.0 in
    is_low.inside

pub rise-requires-clause-size : goal.rise-requires-clause-size
rise-requires-clause-size c =
    let first = c.requires.0 in
    let can = c.requires.1.1 in
    let kept = c.loop-self.invariant first c.requires.1.0 can in
    let is_low : IsLow c.loop-self.self c.args.peaks.now.roots =
    low c.loop-self.self c.args.peaks.now.roots first c.requires.1.0 (omega (arith, c.loop-self-test.true)) (omega (arith, can.more, can.few)) kept.0 in
    is_low.size

pub loop-self-preserved : goal.loop-self-preserved
loop-self-preserved c = λ first leaves can.
    let kept = c.loop-self.invariant first leaves can in
    let up = rose_left c.loop-self.self c.rise.new.self c.args.peaks.now.roots first leaves c.peak.result c.loop-self-test.true can.more
    c.peak.ensures c.rise.ensures kept.0 in
    (up.reaches, up.end ∙ kept.1)

pub returns : goal.returns
returns c = λ first leaves can.
    let kept = c.loop-self.invariant first leaves can in
    record { reaches = kept.0; even = omega (arith, c.loop-self-test.false); end = kept.1 }
