use Rattle.public_fold.proofs.TurnsHold.{log_holds}
use Rattle.public_fold.proofs.sound_laws.all_holds_after_turns_that_fit.Goals as goal

pub returns : goal.returns
returns c = log_holds
