use Rattle.std.proofs.Common.{◌≡◌, ◌-◌, ◌*◌, ◌/◌, ap, sym, ◌∙◌, arith}
use Rattle.head_tree.proofs.Depths.{fits}
use Rattle.head_tree.proofs.Growth.{double}
use Rattle.head_tree.proofs.Rising.{times_more, twice_power}
use Rattle.head_tree.proofs.climb.Climb.new.Goals as goal

pub overflow_add-level : goal.overflow_add-level
overflow_add-level c =
    let kept = c.loop-count.invariant in
    let less = times_more (c.loop-count.count - 1) c.loop-count.count c.loop-count.size c.args.first (omega (arith, kept.0)) kept.2 in
    omega (arith, fits c.loop-count.level, kept.1, less, c.requires.most)

pub loop-count-preserved : goal.loop-count-preserved
loop-count-preserved c =
    let kept = c.loop-count.invariant in
    let count = c.loop-count.count in
    let size = c.loop-count.size in
    let half : count ≡ 2 * (count / 2) = omega (arith, c.loop-count-test.true) in
    let halves : count * size ≡ (2 * (count / 2)) * size = ap (λ z. z * size) half in
    let power = double (count / 2) size (size * 2) (omega arith) in (
      omega (arith, kept.0, half),
      ap (λ z. z * 2) kept.1 ∙ sym (twice_power c.loop-count.level),
      omega (arith, power, halves, kept.2),
    )
