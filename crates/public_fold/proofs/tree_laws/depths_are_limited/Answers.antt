use Rattle.public_fold.proofs.OwnPaths.{depth_bound, depth_names}
use Rattle.public_fold.proofs.tree_laws.depths_are_limited.Goals as goal

pub returns : goal.returns
returns c = record { limit = depth_bound; names = depth_names }
