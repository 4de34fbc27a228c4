use Rattle.std.proofs.Common.{drop, map, ◌≤◌}
use Rattle.cry_base.specs.Requests.{request_of}
use Rattle.cli_sessions.proofs.LineAnswers.{EachGoing}
use Rattle.cli_sessions.proofs.script.answer_each.Given as goal

abbrev pub invariant-loop-command : goal.invariant-loop-command
invariant-loop-command g l = record {
  counts : g.W.Sink.faults l.fn.out ≤ g.W.Sink.faults l.out;
  ready : g.O.Applies.ready (l.owner, l.random, l.disk);
  going : EachGoing _ g.O.Applies.answers g.O.Applies.fails (l.fn.owner, l.fn.random, l.fn.disk) (map request_of l.commands) (g.W.Sink.written l.fn.out)
      (l.owner, l.random, l.disk) (drop l.command-index (map request_of l.commands)) (g.W.Sink.written l.out);
}
