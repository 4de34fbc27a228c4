use Rattle.std.proofs.Common.{Ok, sym, subst}
use Rattle.std.proofs.lemmas.Result.{err_from_is_err_and}
use Rattle.log_visits.specs.Answering.{AnswersAs}
use Rattle.holder_client.specs.Lines.{plain_view}
use Rattle.holder_client.proofs.Listings.{may_read_all, reads_fail_view, reads_pass_view}
use Rattle.log_visits.proofs.OwnerKey.{owner_is_seen}
use Rattle.holder_client.proofs.log_reader.Reader.view.Goals as goal

pub returns-in_err-admit-clause-answer : goal.returns-in_err-admit-clause-answer
returns-in_err-admit-clause-answer g c = λ s is shown.
    let p = err_from_is_err_and c.from_residual.result c.from_residual.ensures.1 in
    rw (p.1, p.2) (reads_fail_view c.args.bundle.now (Ok c.args.log.now.given) c.in_err-admit.field-0.0 (c.in_err-admit.ensures.answer c.args.log.now.given c.requires.read))

pub list_records-requires : goal.list_records-requires
list_records-requires g c = record { owner = owner_is_seen c.args.self.now.state c.args.log.now.given (c.in_ok-admit.ensures.folded c.args.log.now.given c.requires.read).stand }

pub returns-clause-answer : goal.returns-clause-answer
returns-clause-answer g c = λ s is shown.
    let given = c.args.log.now.given in
    let a = c.in_ok-admit.ensures.answer given c.requires.read in
    subst (AnswersAs plain_view c.list_records.result) (sym (reads_pass_view c.args.bundle.now (Ok given) a.0 a.1))
    (c.list_records.ensures.answer (s, is, shown) a.0 a.2.0 (may_read_all c.args.bundle.now a.0.stand.store a.2.1))
