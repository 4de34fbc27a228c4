use Rattle.audit_laws.proofs.Fair.{audit_fair}
use Rattle.audit_laws.proofs.laws.audits_show_what_was_shown_or_gained.Goals as goal

pub returns : goal.returns
returns c = audit_fair
