use Rattle.std.proofs.Common.{map, subst}
use Rattle.cry_base.specs.Requests.{request_of}
use Rattle.cli_sessions.specs.Script.{AnswersEach}
use Rattle.cli_sessions.proofs.LineAnswers.{replacing}
use Rattle.cli_sessions.proofs.script.replace.Goals as goal

pub returns-clause-answers : goal.returns-clause-answers
returns-clause-answers g c =
    replacing _ g.O.Applies.answers g.O.Applies.fails (λ at. g.O.Applies.replaces at.0) (c.args.owner.now, c.args.random.now, c.args.disk.now)
    (c.answer_each.new.owner, c.answer_each.new.random, c.answer_each.new.disk) c.args.holder.0 (map request_of c.in-Ok.commands.items) c.answer_each.result
    (g.W.Sink.written c.args.out.now) (g.W.Sink.written c.answer_each.new.out) c.in-Ok.ensures.commands c.in-Ok.ensures.form
    (subst (λ l. AnswersEach g.O.Applies.answers g.O.Applies.fails c.answer_each.result (c.args.owner.now, c.args.random.now, c.args.disk.now) (map request_of l)
    (c.answer_each.new.owner, c.answer_each.new.random, c.answer_each.new.disk) (g.W.Sink.written c.args.out.now) (g.W.Sink.written c.answer_each.new.out)) c.as_slice.ensures
    c.answer_each.ensures.answers)
