use Rattle.std.proofs.Common.{Ok, Err, sym, subst}
use Rattle.cry_base.specs.Requests.{request_of}
use Rattle.script_text.specs.Tasks.{task_of}
use Rattle.cli_sessions.specs.Script.{AnswersLine}
use Rattle.cli_sessions.proofs.LineAnswers.{one_answered, one_met}
use Rattle.cli_sessions.proofs.script.answer_line.Goals as goal

pub returns-in-Ok-clause-answers : goal.returns-in-Ok-clause-answers
returns-in-Ok-clause-answers g c =
    subst (λ task. AnswersLine g.O.Applies.answers g.O.Applies.fails (λ at. g.O.Applies.replaces at.0) (Ok tt) (c.args.owner.now, c.args.random.now, c.args.disk.now) (task_of task)
    (c.answer.new.owner, c.answer.new.random, c.answer.new.disk) (g.W.Sink.written c.args.out.now) (g.W.Sink.written c.answer.new.out)) (sym c.in-Does.is)
    (one_answered _ g.O.Applies.answers g.O.Applies.fails (λ at. g.O.Applies.replaces at.0) (c.args.owner.now, c.args.random.now, c.args.disk.now)
    (c.answer.new.owner, c.answer.new.random, c.answer.new.disk) (request_of c.in-Does.command) c.in-Ok.field-0 (g.W.Sink.written c.args.out.now) (g.W.Sink.written c.answer.new.out) c.in-Ok.ensures.answers)

pub returns-in-Does-clause-answers : goal.returns-in-Does-clause-answers
returns-in-Does-clause-answers g c =
    subst (λ task. AnswersLine g.O.Applies.answers g.O.Applies.fails (λ at. g.O.Applies.replaces at.0) (Err c.in-Err.fault) (c.args.owner.now, c.args.random.now, c.args.disk.now) (task_of task)
    (c.answer.new.owner, c.answer.new.random, c.answer.new.disk) (g.W.Sink.written c.args.out.now) (g.W.Sink.written c.answer.new.out)) (sym c.in-Does.is)
    (one_met _ g.O.Applies.answers g.O.Applies.fails (λ at. g.O.Applies.replaces at.0) (c.args.owner.now, c.args.random.now, c.args.disk.now)
    (c.answer.new.owner, c.answer.new.random, c.answer.new.disk) (request_of c.in-Does.command) c.in-Err.fault (g.W.Sink.written c.args.out.now) (g.W.Sink.written c.answer.new.out) c.in-Err.ensures.answers)
