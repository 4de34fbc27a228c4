use Rattle.public_fold.proofs.Prefixes.{steps_grow as grow, end_grows}
use Rattle.public_fold.proofs.laws.steps_grow.Goals as goal

pub returns : goal.returns
returns c = record { published = grow; end = end_grows }
