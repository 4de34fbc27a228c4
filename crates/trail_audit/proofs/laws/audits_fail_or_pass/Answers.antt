use Rattle.trail_audit.proofs.Audits.{reading_fails, passes}
use Rattle.trail_audit.proofs.laws.audits_fail_or_pass.Goals as goal

pub returns : goal.returns
returns c = record { reading = reading_fails; pass = passes }
