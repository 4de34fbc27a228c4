use Rattle.std.proofs.Common.{Ok}
use Rattle.std.proofs.lemmas.Result.{err_from_is_err_and}
use Rattle.chacha_seal.specs.Sealing.{masked}
use Rattle.commit_journal.specs.Log.{payload_in, body_of, placed_body, turn_of}
use Rattle.commit_journal.specs.Readers.{unmasked_turn}
use Rattle.commit_journal.proofs.Judged.{fault_first}
use Rattle.commit_journal.proofs.judge.unmask.Goals as goal

pub returns-in_err-body-clause-answer : goal.returns-in_err-body-clause-answer
unfolding unmasked_turn
returns-in_err-body-clause-answer c =
    let p = err_from_is_err_and c.from_residual.result c.from_residual.ensures.1 in
    let past = c.args.past.now in
    let head = c.args.head.now in
    let batch = c.args.batch.now in
    rw (p.1, p.2) (fault_first c.in_err-body.field-0.0 (placed_body past (body_of head (masked c.args.veil.now (payload_in head.size batch))))
    (λ body. Ok (turn_of past head batch body)) c.in_err-body.ensures.answer)
