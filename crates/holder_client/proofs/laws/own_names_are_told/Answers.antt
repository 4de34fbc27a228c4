use Rattle.holder_client.proofs.OwnNames.{own_names}
use Rattle.holder_client.proofs.laws.own_names_are_told.Goals as goal

pub returns : goal.returns
returns c = own_names
