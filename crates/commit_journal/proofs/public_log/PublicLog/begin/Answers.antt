use Rattle.std.proofs.Common.{drop, sym, ap, ◌∙◌}
use Rattle.std.specs.Prelude.{option_copied}
use Rattle.std.proofs.lemmas.Result.{err_from_is_err_and}
use Rattle.cry_base.specs.Layout.{header_len}
use Rattle.commit_journal.specs.Logs.{turn_by, walk_at}
use Rattle.commit_journal.specs.Readers.{key_bytes, header_at, read_log, read_turn}
use Rattle.commit_journal.specs.Streaming.{log_in}
use Rattle.commit_journal.proofs.Judged.{fault_first}
use Rattle.commit_journal.proofs.Leaved.{front_known}
use Rattle.commit_journal.proofs.Stepped.{read_starts}
use Rattle.commit_journal.proofs.public_log.PublicLog.begin.Goals as goal

pub returns-in_err-past-clause-failed : goal.returns-in_err-past-clause-failed
unfolding read_log
returns-in_err-past-clause-failed g c = λ s is.
    let p = err_from_is_err_and c.from_residual.result c.from_residual.ensures.1 in
    let who = key_bytes (option_copied c.args.owner) in
    rw (p.1, p.2) (fault_first c.in_err-past.field-0.0 (header_at who s) (λ past. walk_at (turn_by (read_turn who)) past 0 (drop header_len s)) (c.in_err-past.ensures.answer s is))

pub returns-clause-log : goal.returns-clause-log
unfolding log_in
returns-clause-log g c = λ s is.
    let who = key_bytes (option_copied c.args.owner) in
    rw (c.behind_header.ensures, c.log_key_of.ensures) (sym (read_starts who s c.in_ok-past.past (c.in_ok-past.ensures.answer s is) c.in_ok-past.ensures.place))

pub returns-clause-front : goal.returns-clause-front
returns-clause-front g c = λ s is.
    let who = key_bytes (option_copied c.args.owner) in
    ap (λ log. log.front) c.behind_header.ensures ∙ front_known who s c.in_ok-past.past (c.in_ok-past.ensures.answer s is)
