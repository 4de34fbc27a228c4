use Rattle.audit_laws.proofs.Fair.{audit_strict}
use Rattle.audit_laws.proofs.laws.audits_of_strict_stores_show_what_was_shown.Goals as goal

pub returns : goal.returns
returns c = audit_strict
