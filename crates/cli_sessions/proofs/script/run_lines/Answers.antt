use Rattle.std.proofs.Common.{Ok, arith, refl, subst, ◌∙◌}
use Rattle.cli_base.specs.Lines.{lines_ahead}
use Rattle.cli_sessions.specs.Script.{CountsTask, GivesTask}
use Rattle.cli_sessions.specs.Taking.{TakesTask}
use Rattle.cli_sessions.proofs.ScriptLemmas.{going_at_start, goes_on, ends_there, stops_reading, stops_answering}
use Rattle.cli_sessions.proofs.script.run_lines.Goals as goal

pub loop-task-init : goal.loop-task-init
loop-task-init g c = record {
  input_told = refl;
  out_told = refl;
  input_counts = omega arith;
  out_counts = omega arith;
  ready = c.requires;
  going = going_at_start _ g.O.Applies.answers g.O.Applies.fails (λ at. g.O.Applies.replaces at.0) (c.args.owner.now, c.args.random.now, c.args.disk.now) c.args.reader.now (g.S.Source.left c.args.input.now) (g.W.Sink.written c.args.out.now);
}

pub returns-in-Ok-None-clause-ran : goal.returns-in-Ok-None-clause-ran
returns-in-Ok-None-clause-ran g c =
    let left = g.S.Source.left in
    let written = g.W.Sink.written in
    let loop = c.loop-task.invariant in
    ends_there _ g.O.Applies.answers g.O.Applies.fails (λ at. g.O.Applies.replaces at.0) (c.args.owner.now, c.args.random.now, c.args.disk.now)
    (c.loop-task.owner, c.loop-task.random, c.loop-task.disk) c.args.reader.now c.loop-task.reader
    (left c.args.input.now) (left c.loop-task.input) (written c.args.out.now) (written c.loop-task.out) loop.going loop.input_told c.next_task.new.reader (left c.next_task.new.input)
    (λ b a was is. subst (λ o. GivesTask (Ok o) (lines_ahead c.loop-task.reader b) (lines_ahead c.next_task.new.reader a)) c.in-Ok-None.field-0-is
    (c.in-Ok-None.ensures.gives b a was is))

pub returns-in-Err-clause-ran : goal.returns-in-Err-clause-ran
returns-in-Err-clause-ran g c =
    let left = g.S.Source.left in
    let written = g.W.Sink.written in
    let loop = c.loop-task.invariant in
    stops_reading _ g.O.Applies.answers g.O.Applies.fails (λ at. g.O.Applies.replaces at.0) (c.args.owner.now, c.args.random.now, c.args.disk.now)
    (c.loop-task.owner, c.loop-task.random, c.loop-task.disk) c.args.reader.now c.loop-task.reader
    (left c.args.input.now) (left c.loop-task.input) (written c.args.out.now) (written c.loop-task.out) loop.going loop.input_told c.next_task.new.reader (left c.next_task.new.input)
    c.in-Err.fault c.in-Err.ensures.gives c.in-Err.ensures.takes c.in-Err.ensures.count c.in-Err.ensures.faults

pub returns-in-Err-answer_line-clause-ran : goal.returns-in-Err-answer_line-clause-ran
returns-in-Err-answer_line-clause-ran g c =
    let left = g.S.Source.left in
    let written = g.W.Sink.written in
    let loop = c.loop-task.invariant in
    stops_answering _ g.O.Applies.answers g.O.Applies.fails (λ at. g.O.Applies.replaces at.0) (c.args.owner.now, c.args.random.now, c.args.disk.now)
    (c.loop-task.owner, c.loop-task.random, c.loop-task.disk) c.args.reader.now c.loop-task.reader
    (left c.args.input.now) (left c.loop-task.input) (written c.args.out.now) (written c.loop-task.out) loop.going loop.input_told c.next_task.new.reader (left c.next_task.new.input)
    c.in-Ok-Some.task
    (λ b a was is. subst (λ o. GivesTask (Ok o) (lines_ahead c.loop-task.reader b) (lines_ahead c.next_task.new.reader a)) c.in-Ok-Some.field-0-is
    (c.in-Ok-Some.ensures.gives b a was is))
    (λ b a was is. subst (λ o. TakesTask (Ok o) c.loop-task.reader c.next_task.new.reader b a) c.in-Ok-Some.field-0-is
    (c.in-Ok-Some.ensures.takes b a was is))
    (c.answer_line.new.owner, c.answer_line.new.random, c.answer_line.new.disk) (written c.answer_line.new.out) loop.out_told
    c.in-Err-answer_line.fault c.in-Err-answer_line.ensures.answers

pub loop-task-preserved : goal.loop-task-preserved
loop-task-preserved g c =
    let left = g.S.Source.left in
    let written = g.W.Sink.written in
    let loop = c.loop-task.invariant in
    record {
      input_told = c.in-Ok-Some.ensures.told ∙ loop.input_told;
      out_told = c.in_default.ensures.told ∙ loop.out_told;
      input_counts = omega (arith, loop.input_counts, c.in-Ok-Some.ensures.counts);
      out_counts = omega (arith, loop.out_counts, c.in_default.ensures.counts);
      ready = c.in_default.ensures.ready;
      going = goes_on _ g.O.Applies.answers g.O.Applies.fails (λ at. g.O.Applies.replaces at.0) (c.args.owner.now, c.args.random.now, c.args.disk.now)
          (c.loop-task.owner, c.loop-task.random, c.loop-task.disk) c.args.reader.now c.loop-task.reader
          (left c.args.input.now) (left c.loop-task.input) (written c.args.out.now) (written c.loop-task.out) loop.going loop.input_told c.next_task.new.reader (left c.next_task.new.input)
          c.in-Ok-Some.task
          (λ b a was is. subst (λ o. GivesTask (Ok o) (lines_ahead c.loop-task.reader b) (lines_ahead c.next_task.new.reader a)) c.in-Ok-Some.field-0-is
          (c.in-Ok-Some.ensures.gives b a was is))
          (λ b a was is. subst (λ o. TakesTask (Ok o) c.loop-task.reader c.next_task.new.reader b a) c.in-Ok-Some.field-0-is
          (c.in-Ok-Some.ensures.takes b a was is))
          (c.answer_line.new.owner, c.answer_line.new.random, c.answer_line.new.disk) (written c.answer_line.new.out) loop.out_told
          (subst (λ o. CountsTask (Ok o) c.loop-task.reader c.next_task.new.reader) c.in-Ok-Some.field-0-is c.in-Ok-Some.ensures.count)
          c.in_default.ensures.answers;
    }
