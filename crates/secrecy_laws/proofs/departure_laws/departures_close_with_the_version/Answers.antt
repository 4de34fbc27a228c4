use Rattle.secrecy_laws.proofs.Departed.{closes_departures}
use Rattle.secrecy_laws.proofs.departure_laws.departures_close_with_the_version.Goals as goal

pub returns : goal.returns
returns c = closes_departures
