use Rattle.std.proofs.Common.{◌≡◌, true, false, refl}
use Rattle.cli_heads.proofs.CheckLemmas.{accepted_answers, accepted_takes, no_proof_answers, no_proof_takes, prefix_line, refused_answers}
use Rattle.cli_heads.proofs.checking.check.Goals as goal

pub returns-in-Err-clause-answered : goal.returns-in-Err-clause-answered
returns-in-Err-clause-answered g c =
    no_proof_answers c.in-Err.fault c.input_status.result c.args.old.now c.args.new.now
    (g.S.Source.left c.args.input.now) (g.S.Source.left c.read_proof.new.input)
    (g.W.Sink.written c.args.out.now) (g.W.Sink.written c.args.out.now)
    c.input_status.ensures c.read_proof.ensures.told c.in-Err.ensures.bytes

pub returns-in-Err-clause-takes : goal.returns-in-Err-clause-takes
returns-in-Err-clause-takes g c =
    no_proof_takes c.in-Err.fault c.input_status.result (g.S.Source.left c.args.input.now) (g.S.Source.left c.read_proof.new.input)
    c.input_status.ensures c.in-Err.ensures.bytes

pub returns-in-Ok-check_proof-clause-answered : goal.returns-in-Ok-check_proof-clause-answered
returns-in-Ok-check_proof-clause-answered g c =
    accepted_answers c.in-Ok.proof c.as_slice.result.now c.tell.result c.args.old.now c.args.new.now
    (g.S.Source.left c.args.input.now) (g.S.Source.left c.read_proof.new.input)
    (g.W.Sink.written c.args.out.now) (g.W.Sink.written c.tell.new.out)
    c.as_slice.ensures c.read_proof.ensures.told c.in-Ok.ensures.bytes
    (c.in-Ok-check_proof.ensures.exact.0 refl) c.in-Ok-check_proof.ensures.prefix c.tell.ensures.done

pub returns-in-Ok-check_proof-clause-takes : goal.returns-in-Ok-check_proof-clause-takes
returns-in-Ok-check_proof-clause-takes g c =
    accepted_takes c.in-Ok.proof c.tell.result (g.S.Source.left c.args.input.now) (g.S.Source.left c.read_proof.new.input)
    (g.W.Sink.written c.args.out.now) (g.W.Sink.written c.tell.new.out) prefix_line c.in-Ok.ensures.bytes c.tell.ensures.done

pub returns-clause-answered : goal.returns-clause-answered
returns-clause-answered g c =
    refused_answers c.in-Ok.proof c.as_slice.result.now c.args.old.now c.args.new.now
    (g.S.Source.left c.args.input.now) (g.S.Source.left c.read_proof.new.input)
    (g.W.Sink.written c.args.out.now) (g.W.Sink.written c.args.out.now)
    c.as_slice.ensures c.read_proof.ensures.told c.in-Ok.ensures.bytes
    (λ accepted. let contradiction : false ≡ true = c.in-Err-check_proof.ensures.exact.1 accepted in cc)

pub returns-clause-takes : goal.returns-clause-takes
returns-clause-takes g c = λ x y was now. (c.in-Ok.ensures.bytes x y was now).1
