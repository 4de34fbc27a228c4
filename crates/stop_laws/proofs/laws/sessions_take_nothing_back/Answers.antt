use Rattle.stop_laws.proofs.LeftByOwner.{front_grows}
use Rattle.stop_laws.proofs.laws.sessions_take_nothing_back.Goals as goal

pub returns : goal.returns
returns c = front_grows
