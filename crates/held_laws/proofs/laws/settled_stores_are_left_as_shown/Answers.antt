use Rattle.held_laws.proofs.Settled.{left_as_shown}
use Rattle.held_laws.proofs.laws.settled_stores_are_left_as_shown.Goals as goal

pub returns : goal.returns
returns c = left_as_shown
