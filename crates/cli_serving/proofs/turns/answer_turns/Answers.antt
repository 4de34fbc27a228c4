use Rattle.std.proofs.Common.{List, Ok, arith, refl, subst, sym, ◌∙◌}
use Rattle.std.specs.List.{All}
use Rattle.std.proofs.lemmas.List.Elements.{All-nil}
use Rattle.read_steps.specs.Steps.{SessionView}
use Rattle.script_text.specs.Seats.{turn_of}
use Rattle.cli_base.specs.Lines.{lines_ahead}
use Rattle.cli_serving.specs.Seating.{IsReady}
use Rattle.cli_serving.specs.Taking.{CountsTurn, GivesTurn, TakesTurn}
use Rattle.cli_serving.specs.TurnAnswers.{OnlyReads}
use Rattle.cli_serving.proofs.ServingLemmas.{serves_on, serves_to_end, serves_to_fault, serves_to_read, serving_at_start}
use Rattle.cli_serving.proofs.turns.answer_turns.Goals as goal

pub loop-turn-init : goal.loop-turn-init
loop-turn-init g c = record {
  input_told = refl;
  out_told = refl;
  input_counts = omega arith;
  out_counts = omega arith;
  ready = c.requires.ready;
  sessions = subst (λ (l : List SessionView). All IsReady l) (sym c.requires.none) (All-nil IsReady);
  serving = serving_at_start _ g.O.Applies.answers g.O.Applies.fails (λ at. g.O.Applies.replaces at.0) (OnlyReads g.D.Disk) (λ at. g.D.Disk.shown at.2) (λ at. g.D.Disk.faults at.2)
      (c.args.owner.now, c.args.random.now, c.args.disk.now) c.args.sessions.now.items c.requires.none c.args.reader.now (g.S.Source.left c.args.input.now) (g.W.Sink.written c.args.out.now);
}

pub returns-in-Ok-None-clause-ran : goal.returns-in-Ok-None-clause-ran
returns-in-Ok-None-clause-ran g c =
    let left = g.S.Source.left in
    let written = g.W.Sink.written in
    let loop = c.loop-turn.invariant in
    serves_to_end _ g.O.Applies.answers g.O.Applies.fails (λ at. g.O.Applies.replaces at.0) (OnlyReads g.D.Disk) (λ at. g.D.Disk.shown at.2) (λ at. g.D.Disk.faults at.2)
    (c.args.owner.now, c.args.random.now, c.args.disk.now) (c.loop-turn.owner, c.loop-turn.random, c.loop-turn.disk) c.loop-turn.sessions.items c.args.reader.now c.loop-turn.reader
    (left c.args.input.now) (left c.loop-turn.input) (written c.args.out.now) (written c.loop-turn.out) loop.serving loop.input_told c.next_turn.new.reader (left c.next_turn.new.input)
    (λ b a was is. subst (λ o. GivesTurn (Ok o) (lines_ahead c.loop-turn.reader b) (lines_ahead c.next_turn.new.reader a)) c.in-Ok-None.field-0-is
    (c.in-Ok-None.ensures.gives b a was is))

pub returns-in-Err-clause-ran : goal.returns-in-Err-clause-ran
returns-in-Err-clause-ran g c =
    let left = g.S.Source.left in
    let written = g.W.Sink.written in
    let loop = c.loop-turn.invariant in
    serves_to_read _ g.O.Applies.answers g.O.Applies.fails (λ at. g.O.Applies.replaces at.0) (OnlyReads g.D.Disk) (λ at. g.D.Disk.shown at.2) (λ at. g.D.Disk.faults at.2)
    (c.args.owner.now, c.args.random.now, c.args.disk.now) (c.loop-turn.owner, c.loop-turn.random, c.loop-turn.disk) c.loop-turn.sessions.items c.args.reader.now c.loop-turn.reader
    (left c.args.input.now) (left c.loop-turn.input) (written c.args.out.now) (written c.loop-turn.out) loop.serving loop.input_told c.next_turn.new.reader (left c.next_turn.new.input)
    c.in-Err.fault c.in-Err.ensures.gives c.in-Err.ensures.takes c.in-Err.ensures.count c.in-Err.ensures.faults

pub returns-in-Err-answer_turn-clause-ran : goal.returns-in-Err-answer_turn-clause-ran
returns-in-Err-answer_turn-clause-ran g c =
    let left = g.S.Source.left in
    let written = g.W.Sink.written in
    let loop = c.loop-turn.invariant in
    serves_to_fault _ g.O.Applies.answers g.O.Applies.fails (λ at. g.O.Applies.replaces at.0) (OnlyReads g.D.Disk) (λ at. g.D.Disk.shown at.2) (λ at. g.D.Disk.faults at.2)
    (c.args.owner.now, c.args.random.now, c.args.disk.now) (c.loop-turn.owner, c.loop-turn.random, c.loop-turn.disk) c.loop-turn.sessions.items c.args.reader.now c.loop-turn.reader
    (left c.args.input.now) (left c.loop-turn.input) (written c.args.out.now) (written c.loop-turn.out) loop.serving loop.input_told c.next_turn.new.reader (left c.next_turn.new.input)
    (turn_of c.in-Ok-Some.turn)
    (λ b a was is. subst (λ o. GivesTurn (Ok o) (lines_ahead c.loop-turn.reader b) (lines_ahead c.next_turn.new.reader a)) c.in-Ok-Some.field-0-is
    (c.in-Ok-Some.ensures.gives b a was is))
    (λ b a was is. subst (λ o. TakesTurn (Ok o) c.loop-turn.reader c.next_turn.new.reader b a) c.in-Ok-Some.field-0-is
    (c.in-Ok-Some.ensures.takes b a was is))
    c.answer_turn.new.sessions.items (c.answer_turn.new.owner, c.answer_turn.new.random, c.answer_turn.new.disk) (written c.answer_turn.new.out) loop.out_told
    (turn_of c.in-Ok-Some.turn) refl c.in-Err-answer_turn.fault c.in-Err-answer_turn.ensures.answers

pub loop-turn-preserved : goal.loop-turn-preserved
loop-turn-preserved g c =
    let left = g.S.Source.left in
    let written = g.W.Sink.written in
    let loop = c.loop-turn.invariant in
    let count = subst (λ o. CountsTurn (Ok o) c.loop-turn.reader c.next_turn.new.reader) c.in-Ok-Some.field-0-is c.in-Ok-Some.ensures.count in
    record {
      input_told = c.in-Ok-Some.ensures.told ∙ loop.input_told;
      out_told = c.in_default.ensures.told ∙ loop.out_told;
      input_counts = omega (arith, loop.input_counts, c.in-Ok-Some.ensures.counts);
      out_counts = omega (arith, loop.out_counts, c.in_default.ensures.counts);
      ready = c.in_default.ensures.ready;
      sessions = c.in_default.ensures.sessions;
      serving = serves_on _ g.O.Applies.answers g.O.Applies.fails (λ at. g.O.Applies.replaces at.0) (OnlyReads g.D.Disk) (λ at. g.D.Disk.shown at.2) (λ at. g.D.Disk.faults at.2)
          (c.args.owner.now, c.args.random.now, c.args.disk.now) (c.loop-turn.owner, c.loop-turn.random, c.loop-turn.disk) c.loop-turn.sessions.items c.args.reader.now c.loop-turn.reader
          (left c.args.input.now) (left c.loop-turn.input) (written c.args.out.now) (written c.loop-turn.out) loop.serving loop.input_told c.next_turn.new.reader (left c.next_turn.new.input)
          (turn_of c.in-Ok-Some.turn)
          (λ b a was is. subst (λ o. GivesTurn (Ok o) (lines_ahead c.loop-turn.reader b) (lines_ahead c.next_turn.new.reader a)) c.in-Ok-Some.field-0-is
          (c.in-Ok-Some.ensures.gives b a was is))
          (λ b a was is. subst (λ o. TakesTurn (Ok o) c.loop-turn.reader c.next_turn.new.reader b a) c.in-Ok-Some.field-0-is
          (c.in-Ok-Some.ensures.takes b a was is))
          c.answer_turn.new.sessions.items (c.answer_turn.new.owner, c.answer_turn.new.random, c.answer_turn.new.disk) (written c.answer_turn.new.out) loop.out_told
          (turn_of c.in-Ok-Some.turn) refl count.0 c.in_default.ensures.answers;
    }
