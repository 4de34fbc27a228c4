use Rattle.cli_heads.proofs.AskLemmas.{told_answers}
use Rattle.cli_heads.proofs.asking.ask_proof.Goals as goal
use Rattle.cli_heads.specs.Asked.Asked.{TheProof}

pub returns-in-Ok-proof_text-clause-answered : goal.returns-in-Ok-proof_text-clause-answered
returns-in-Ok-proof_text-clause-answered g c = λ image was.
    let read = c.in-Ok.ensures.verdict image was in
    told_answers (TheProof c.args.batches) read.0 c.in-Ok-proof_text.text.items c.as_slice.result.now image c.tell.result
    (g.W.Sink.written c.args.out.now) (g.W.Sink.written c.tell.new.out)
    read.1 (c.in-Ok-proof_text.ensures.told read.0 read.2) c.as_slice.ensures c.tell.ensures.done
