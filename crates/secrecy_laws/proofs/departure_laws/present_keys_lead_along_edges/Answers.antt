use Rattle.secrecy_laws.proofs.Departed.{present_leads}
use Rattle.secrecy_laws.proofs.departure_laws.present_keys_lead_along_edges.Goals as goal

pub returns : goal.returns
returns c = present_leads
