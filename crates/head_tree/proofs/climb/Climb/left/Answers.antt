use Rattle.std.proofs.Common.{Some, sym, ap, ◌∙◌, arith}
use Rattle.head_tree.proofs.Rising.{left-even, left-odd}
use Rattle.head_tree.proofs.climb.Climb.left.Goals as goal

pub returns-then-self-eq1 : goal.returns-then-self-eq1
returns-then-self-eq1 c = ap (λ h. Some h) c.peak.ensures ∙ sym (left-odd c.args.self.now c.args.peaks.now.roots c.if-self-eq1.true)

pub returns-else-self-eq1 : goal.returns-else-self-eq1
returns-else-self-eq1 c = sym (left-even c.args.self.now c.args.peaks.now.roots (omega (arith, c.if-self-eq1.false)))
