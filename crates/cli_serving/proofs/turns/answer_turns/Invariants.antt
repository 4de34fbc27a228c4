use Rattle.std.proofs.Common.{◌≡◌, ◌≤◌}
use Rattle.std.specs.Prelude.{is_some}
use Rattle.std.specs.List.{All}
use Rattle.cli_serving.specs.Seating.{IsReady}
use Rattle.cli_serving.specs.TurnAnswers.{OnlyReads}
use Rattle.cli_serving.proofs.ServingLemmas.{Serving}
use Rattle.cli_serving.proofs.turns.answer_turns.Given as goal

abbrev pub invariant-loop-turn : goal.invariant-loop-turn
invariant-loop-turn g l = record {
  input_told : is_some (g.S.Source.left l.input) ≡ is_some (g.S.Source.left l.fn.input);
  out_told : is_some (g.W.Sink.written l.out) ≡ is_some (g.W.Sink.written l.fn.out);
  input_counts : g.S.Source.faults l.fn.input ≤ g.S.Source.faults l.input;
  out_counts : g.W.Sink.faults l.fn.out ≤ g.W.Sink.faults l.out;
  ready : g.O.Applies.ready (l.owner, l.random, l.disk);
  sessions : All IsReady l.sessions.items;
  serving : Serving g.O.Applies.answers g.O.Applies.fails (λ at. g.O.Applies.replaces at.0) (OnlyReads g.D.Disk) (λ at. g.D.Disk.shown at.2)
      (l.fn.owner, l.fn.random, l.fn.disk) (l.owner, l.random, l.disk) l.sessions.items l.fn.reader l.reader
      (g.S.Source.left l.fn.input) (g.S.Source.left l.input) (g.W.Sink.written l.fn.out) (g.W.Sink.written l.out);
}

abbrev pub decreases-loop-turn : goal.decreases-loop-turn
decreases-loop-turn g l = l.reader.room
