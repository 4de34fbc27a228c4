use Rattle.std.proofs.Common.{◌<◌, length, subst, ◌∙◌}
use Rattle.std.proofs.lemmas.Result.{err_from_is_err_and}
use Rattle.cli_serving.proofs.seating.begin_session.Goals as goal

pub returns-in_err-session-clause-fails : goal.returns-in_err-session-clause-fails
returns-in_err-session-clause-fails g c =
    let p = err_from_is_err_and c.from_residual.result c.from_residual.ensures.1 in
    let room : length c.args.sessions.now.items < 256 = subst (λ k. k < 256) (c.len-count.ensures ∙ c.args.sessions.now.ok.0) c.if-count-ge-MOST_SESSIONS.false in
    rw (p.1, p.2) (room, c.in_err-session.ensures.verdict, c.in_err-session.ensures.of_bytes)
