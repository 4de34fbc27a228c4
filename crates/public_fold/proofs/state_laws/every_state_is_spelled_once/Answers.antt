use Rattle.public_fold.proofs.SpelledOnce.{spelled_once}
use Rattle.public_fold.proofs.state_laws.every_state_is_spelled_once.Goals as goal

pub returns : goal.returns
returns c = spelled_once
