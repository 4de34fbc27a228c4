use Rattle.cli_heads.proofs.AskLemmas.{head_answers}
use Rattle.cli_heads.proofs.asking.ask_head.Goals as goal

pub returns-in-Ok-head_text-clause-answered : goal.returns-in-Ok-head_text-clause-answered
returns-in-Ok-head_text-clause-answered g c = λ image was.
    head_answers c.in-Ok.heads 0 c.in-Ok-head_text.text.items c.as_slice.result.now image c.tell.result
    (g.W.Sink.written c.args.out.now) (g.W.Sink.written c.tell.new.out)
    (c.in-Ok.ensures.verdict image was) c.in-Ok-head_text.ensures c.as_slice.ensures c.tell.ensures.done
