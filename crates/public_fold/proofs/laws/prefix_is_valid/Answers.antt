use Rattle.public_fold.proofs.Prefixes.{prefix_valid}
use Rattle.public_fold.proofs.laws.prefix_is_valid.Goals as goal

pub returns : goal.returns
returns c = prefix_valid
