use Rattle.public_fold.proofs.TurnsHold.{turns_hold}
use Rattle.public_fold.proofs.turn_laws.what_holds_lasts_through_turns_that_fit.Goals as goal

pub returns : goal.returns
returns c = turns_hold
