use Rattle.std.proofs.Common.{arith, sym, ◌∙◌, ◌+◌, drop, map}
use Rattle.cry_base.specs.Requests.{request_of}
use Rattle.cli_sessions.proofs.LineAnswers.{accepted_is, drop_all, drop_next, each_at_start, each_end, each_met, each_next, each_refused}
use Rattle.cli_sessions.proofs.script.answer_each.Goals as goal

pub loop-command-init : goal.loop-command-init
loop-command-init g c = record {
  counts = omega arith;
  ready = c.requires;
  going = each_at_start _ g.O.Applies.answers g.O.Applies.fails (c.args.owner.now, c.args.random.now, c.args.disk.now) (map request_of c.args.commands.now) (g.W.Sink.written c.args.out.now);
}

pub answer-requires : goal.answer-requires
answer-requires g c = c.loop-command.invariant.ready

pub returns-then-is_refusal-clause-answers : goal.returns-then-is_refusal-clause-answers
returns-then-is_refusal-clause-answers g c =
    each_refused _ g.O.Applies.answers g.O.Applies.fails (c.args.owner.now, c.args.random.now, c.args.disk.now) (map request_of c.args.commands.now) (g.W.Sink.written c.args.out.now)
    (c.loop-command.owner, c.loop-command.random, c.loop-command.disk) (drop c.loop-command.command-index (map request_of c.args.commands.now)) (g.W.Sink.written c.loop-command.out)
    c.loop-command.invariant.going (request_of c.command-item.result) (drop (c.loop-command.command-index + 1) (map request_of c.args.commands.now))
    (drop_next request_of c.args.commands.now c.loop-command.command-index c.command-item.result c.loop-command-test.true c.command-item.is)
    (c.answer.new.owner, c.answer.new.random, c.answer.new.disk) (g.W.Sink.written c.answer.new.out)
    c.in-Ok.reply (sym c.is_refusal.ensures ∙ c.if-is_refusal.true) c.in-Ok.ensures.answers

pub returns-then-is_refusal-clause-told : goal.returns-then-is_refusal-clause-told
returns-then-is_refusal-clause-told g c = c.in-Ok.ensures.told ∙ c.loop-command.invariant.going.told

pub returns-in-Err-clause-answers : goal.returns-in-Err-clause-answers
returns-in-Err-clause-answers g c =
    each_met _ g.O.Applies.answers g.O.Applies.fails (c.args.owner.now, c.args.random.now, c.args.disk.now) (map request_of c.args.commands.now) (g.W.Sink.written c.args.out.now)
    (c.loop-command.owner, c.loop-command.random, c.loop-command.disk) (drop c.loop-command.command-index (map request_of c.args.commands.now)) (g.W.Sink.written c.loop-command.out)
    c.loop-command.invariant.going (request_of c.command-item.result) (drop (c.loop-command.command-index + 1) (map request_of c.args.commands.now))
    (drop_next request_of c.args.commands.now c.loop-command.command-index c.command-item.result c.loop-command-test.true c.command-item.is)
    (c.answer.new.owner, c.answer.new.random, c.answer.new.disk) (g.W.Sink.written c.answer.new.out) c.in-Err.fault c.in-Err.ensures.answers

pub returns-in-Err-clause-told : goal.returns-in-Err-clause-told
returns-in-Err-clause-told g c = c.in-Err.ensures.told ∙ c.loop-command.invariant.going.told

pub loop-command-preserved : goal.loop-command-preserved
loop-command-preserved g c = record {
  counts = omega (arith, c.loop-command.invariant.counts, c.in-Ok.ensures.counts);
  ready = c.in-Ok.ensures.ready;
  going = each_next _ g.O.Applies.answers g.O.Applies.fails (c.args.owner.now, c.args.random.now, c.args.disk.now) (map request_of c.args.commands.now) (g.W.Sink.written c.args.out.now)
      (c.loop-command.owner, c.loop-command.random, c.loop-command.disk) (drop c.loop-command.command-index (map request_of c.args.commands.now)) (g.W.Sink.written c.loop-command.out)
      c.loop-command.invariant.going (request_of c.command-item.result) (drop (c.loop-command.command-index + 1) (map request_of c.args.commands.now))
      (drop_next request_of c.args.commands.now c.loop-command.command-index c.command-item.result c.loop-command-test.true c.command-item.is)
      (c.answer.new.owner, c.answer.new.random, c.answer.new.disk) (g.W.Sink.written c.answer.new.out)
      c.in-Ok.reply (accepted_is c.in-Ok.reply (sym c.is_refusal.ensures ∙ c.if-is_refusal.false)) c.in-Ok.ensures.answers c.in-Ok.ensures.told;
}

pub returns-clause-ready : goal.returns-clause-ready
returns-clause-ready g c = c.loop-command.invariant.ready

pub returns-clause-answers : goal.returns-clause-answers
returns-clause-answers g c =
    each_end _ g.O.Applies.answers g.O.Applies.fails (c.args.owner.now, c.args.random.now, c.args.disk.now) (map request_of c.args.commands.now) (g.W.Sink.written c.args.out.now)
    (c.loop-command.owner, c.loop-command.random, c.loop-command.disk) (drop c.loop-command.command-index (map request_of c.args.commands.now)) (g.W.Sink.written c.loop-command.out)
    c.loop-command.invariant.going (drop_all request_of c.args.commands.now c.loop-command.command-index c.loop-command-test.false)

pub returns-clause-told : goal.returns-clause-told
returns-clause-told g c = c.loop-command.invariant.going.told

pub returns-clause-counts : goal.returns-clause-counts
returns-clause-counts g c = c.loop-command.invariant.counts
