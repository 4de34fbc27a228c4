use Rattle.secrecy_laws.proofs.Departed.{keeps_departures}
use Rattle.secrecy_laws.proofs.departure_laws.journals_keep_departures.Goals as goal

pub returns : goal.returns
returns c = keeps_departures
