use Rattle.secrecy_laws.proofs.Seeing.{strictly_seen}
use Rattle.secrecy_laws.proofs.departure_laws.audits_of_strict_stores_show_what_was_shown.Goals as goal

pub returns : goal.returns
returns c = strictly_seen
