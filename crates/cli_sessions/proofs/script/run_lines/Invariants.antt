use Rattle.std.proofs.Common.{◌≡◌, ◌≤◌}
use Rattle.std.specs.Prelude.{is_some}
use Rattle.cli_sessions.proofs.ScriptLemmas.{Going}
use Rattle.cli_sessions.proofs.script.run_lines.Given as goal

abbrev pub invariant-loop-task : goal.invariant-loop-task
invariant-loop-task g l = record {
  input_told : is_some (g.S.Source.left l.input) ≡ is_some (g.S.Source.left l.fn.input);
  out_told : is_some (g.W.Sink.written l.out) ≡ is_some (g.W.Sink.written l.fn.out);
  input_counts : g.S.Source.faults l.fn.input ≤ g.S.Source.faults l.input;
  out_counts : g.W.Sink.faults l.fn.out ≤ g.W.Sink.faults l.out;
  ready : g.O.Applies.ready (l.owner, l.random, l.disk);
  going : Going g.O.Applies.answers g.O.Applies.fails (λ at. g.O.Applies.replaces at.0) (l.fn.owner, l.fn.random, l.fn.disk) (l.owner, l.random, l.disk) l.fn.reader l.reader (g.S.Source.left l.fn.input) (g.S.Source.left l.input) (g.W.Sink.written l.fn.out) (g.W.Sink.written l.out);
}

abbrev pub decreases-loop-task : goal.decreases-loop-task
decreases-loop-task g l = l.reader.room
