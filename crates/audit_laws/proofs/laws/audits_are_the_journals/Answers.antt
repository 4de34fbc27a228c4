use Rattle.audit_laws.proofs.Answered.{audit_answered, audit_refused}
use Rattle.audit_laws.proofs.laws.audits_are_the_journals.Goals as goal

pub returns : goal.returns
returns c = record { answered = audit_answered; wrong_key = audit_refused }
