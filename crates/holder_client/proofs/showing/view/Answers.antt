use Rattle.std.proofs.Common.{◌∙◌}
use Rattle.std.proofs.lemmas.Result.{err_from_is_err_and}
use Rattle.cry_io.proofs.OnlyRead.{only_read_twice}
use Rattle.holder_client.proofs.Listings.{log_fails_view, log_read_view}
use Rattle.holder_client.proofs.showing.view.Goals as goal

pub returns-in_err-log-clause-verdict : goal.returns-in_err-log-clause-verdict
returns-in_err-log-clause-verdict g c = λ s is.
    let p = err_from_is_err_and c.from_residual.result c.from_residual.ensures.1 in
    rw (p.1, p.2) (log_fails_view c.args.bundle.now s c.in_err-log.field-0.0 (c.in_err-log.ensures.verdict s is))

pub returns-clause-verdict : goal.returns-clause-verdict
returns-clause-verdict g c = λ s is.
    log_read_view c.args.bundle.now s c.in_ok-log.field-0.log.given c.view.result (c.in_ok-log.ensures.verdict s is) (c.view.ensures.answer s (c.in_ok-log.ensures.read_only.same_bytes ∙ is)
    (c.in_ok-log.ensures.shows s is))

pub returns-clause-read_only : goal.returns-clause-read_only
returns-clause-read_only g c =
    only_read_twice g.D.Disk c.args.disk.now c.read_log.new.disk c.view.new.disk c.in_ok-log.ensures.read_only c.view.ensures.read_only
