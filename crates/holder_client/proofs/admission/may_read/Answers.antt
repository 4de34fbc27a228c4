use Rattle.std.proofs.Common.{subst}
use Rattle.log_visits.specs.Answering.{AnswersAs}
use Rattle.holder_client.proofs.Admitted.{holder_is_asked, owner_may}
use Rattle.holder_client.proofs.admission.may_read.Goals as goal

pub returns-in-Owner-clause-answer : goal.returns-in-Owner-clause-answer
returns-in-Owner-clause-answer c = λ log r has of_log. owner_may c.args.bundle.now _ r c.in-Owner.is

pub returns-in-Holder-clause-answer : goal.returns-in-Holder-clause-answer
returns-in-Holder-clause-answer c = λ log r has of_log.
    subst (AnswersAs (λ _. r) c.holder_may.result) (holder_is_asked c.args.bundle.now c.in-Holder.holder c.in-Holder.key r c.in-Holder.is) (c.holder_may.ensures.answer log r has of_log)
