use Rattle.std.proofs.Common.{◌∙◌, Err, Ok, arith}
use Rattle.std.proofs.lemmas.Result.{err_from_is_err_and}
use Rattle.cry_io.proofs.OnlyRead.{only_read_twice}
use Rattle.log_visits.specs.Judging.{read_with}
use Rattle.trail_audit.proofs.Answered.{log_fails, log_read, records_opened}
use Rattle.trail_audit.proofs.auditing.audit.Goals as goal

pub returns-in_err-log-clause-verdict : goal.returns-in_err-log-clause-verdict
returns-in_err-log-clause-verdict g c = λ s is.
    let p = err_from_is_err_and c.from_residual.result c.from_residual.ensures.1 in
    rw (p.1, p.2) (log_fails c.args.bundle.now s c.in_err-log.field-0.0 (c.in_err-log.ensures.verdict s is))

pub returns-in_err-known-clause-verdict : goal.returns-in_err-known-clause-verdict
returns-in_err-known-clause-verdict g c = λ s is.
    let p = err_from_is_err_and c.from_residual-in_err-known.result c.from_residual-in_err-known.ensures.1 in
    let read = c.in_ok-log.field-0 in
    let kept = c.in_ok-log.ensures.read in
    rw (p.1, p.2) (log_read c.args.bundle.now s read.log.given (Err c.in_err-known.field-0.0) (c.in_ok-log.ensures.verdict s is) (c.in_err-known.ensures.answer read.log.given kept.read kept.links))

pub returns-clause-verdict : goal.returns-clause-verdict
returns-clause-verdict g c = λ s is.
    let given = c.in_ok-log.field-0.log.given in
    let kept = c.in_ok-log.ensures.read in
    let bundle = c.args.bundle.now in
    log_read bundle s given c.see_log.result (c.in_ok-log.ensures.verdict s is)
    (records_opened (read_with bundle (Ok given)) bundle given c.in_ok-known.known.keys.items c.see_log.result (c.in_ok-known.ensures.answer given kept.read kept.links)
    (c.see_log.ensures.answer s (c.in_ok-log.ensures.read_only.same_bytes ∙ is) (c.in_ok-log.ensures.shows s is)))

pub returns-clause-read_only : goal.returns-clause-read_only
returns-clause-read_only g c =
    only_read_twice g.D.Disk c.args.disk.now c.read_log.new.disk c.see_log.new.disk c.in_ok-log.ensures.read_only c.see_log.ensures.read_only

pub returns-clause-counts : goal.returns-clause-counts
returns-clause-counts g c = omega (arith, c.in_ok-log.ensures.counts, c.see_log.ensures.counts)

pub known_keys-requires : goal.known_keys-requires
known_keys-requires g c =
    let kept = c.in_ok-log.ensures.read in
    record { kept = (c.in_ok-log.field-0.log.given, kept.read, kept.links) }
