use Rattle.std.proofs.Common.{◌≡◌, ◌≤◌, ◌-◌, ◌++◌, length, take}
use Rattle.std.specs.Prelude.{is_some}
use Rattle.cry_io.specs.Told.{WhereBothTold}
use Rattle.store_owner.proofs.drawing.draw.Given as goal

abbrev pub invariant-loop-have : goal.invariant-loop-have
invariant-loop-have g l = record {
  within : l.have ≤ length l.buf;
  told : is_some (g.R.Source.left l.random) ≡ is_some (g.R.Source.left l.fn.random);
  bytes : WhereBothTold (g.R.Source.left l.fn.random) (g.R.Source.left l.random) (λ before after. before ≡ take l.have l.buf ++ after);
  counts : g.R.Source.faults l.fn.random ≤ g.R.Source.faults l.random;
}

abbrev pub decreases-loop-have : goal.decreases-loop-have
decreases-loop-have g l = length l.buf - l.have
