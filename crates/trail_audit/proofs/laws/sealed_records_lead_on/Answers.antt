use Rattle.trail_audit.proofs.Leading.{link_leads, link_target, content_tagged}
use Rattle.trail_audit.proofs.laws.sealed_records_lead_on.Goals as goal

pub returns : goal.returns
returns c = record { link = link_leads; target = link_target; content = content_tagged }
