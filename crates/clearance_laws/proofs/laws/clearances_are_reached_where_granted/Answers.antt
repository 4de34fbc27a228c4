use Rattle.clearance_laws.proofs.Clearing.{holder_reaches, owner_reaches}
use Rattle.clearance_laws.proofs.laws.clearances_are_reached_where_granted.Goals as goal

pub returns : goal.returns
returns c = record { holders = holder_reaches; owner = owner_reaches }
