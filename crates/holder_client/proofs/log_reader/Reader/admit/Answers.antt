use Rattle.std.proofs.Common.{ℕ, subst}
use Rattle.holder_client.specs.Reads.{HasReadTo}
use Rattle.log_visits.specs.declared.fault.ClientFault.TheVariants as faults
use Rattle.holder_client.proofs.Admitted.{fold_refused}
use Rattle.holder_client.proofs.Besides.{none_of}
use Rattle.log_visits.proofs.Opens.{on_any}
use Rattle.holder_client.proofs.Adding.{admitted}
use Rattle.holder_client.proofs.log_reader.Reader.admit.Goals as goal

pub returns-in-Some-clause-answer : goal.returns-in-Some-clause-answer
returns-in-Some-clause-answer c = λ log read. fold_refused c.args.bundle.now log (faults.Damaged c.in-Some.at) (subst (λ m. HasReadTo m c.args.self.now log) c.in-Some.is read)

pub returns-clause-answer : goal.returns-clause-answer
returns-clause-answer c = λ log read.
    let has = subst (λ m. HasReadTo m c.args.self.now log) (none_of ℕ c.args.self.now.misfit c.in_default.not-Some) read in
    admitted c.args.bundle.now c.args.self.now log c.may_read.result has (λ r of_log. c.may_read.ensures.answer log r has.checks of_log)

pub returns-clause-folded : goal.returns-clause-folded
returns-clause-folded c =
    on_any _ c.may_read.result (λ log read. subst (λ m. HasReadTo m c.args.self.now log) (none_of ℕ c.args.self.now.misfit c.in_default.not-Some) read)
