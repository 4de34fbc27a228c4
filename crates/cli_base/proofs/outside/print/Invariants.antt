use Rattle.std.proofs.Common.{◌≡◌, ◌≤◌, ◌-◌, ◌++◌, length, take}
use Rattle.std.specs.Prelude.{is_some}
use Rattle.cry_io.specs.Told.{WhereBothTold}
use Rattle.cli_base.proofs.outside.print.Given as goal

abbrev pub invariant-loop-done : goal.invariant-loop-done
invariant-loop-done g l = record {
  within : l.done ≤ length l.piece;
  told : is_some (g.W.Sink.written l.out) ≡ is_some (g.W.Sink.written l.fn.out);
  bytes : WhereBothTold (g.W.Sink.written l.fn.out) (g.W.Sink.written l.out) (λ before after. after ≡ before ++ take l.done l.piece);
  counts : g.W.Sink.faults l.fn.out ≤ g.W.Sink.faults l.out;
}

abbrev pub decreases-loop-done : goal.decreases-loop-done
decreases-loop-done g l = length l.piece - l.done
