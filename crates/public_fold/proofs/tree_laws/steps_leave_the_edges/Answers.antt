use Rattle.public_fold.proofs.KeyMoves.{edges_after}
use Rattle.public_fold.proofs.tree_laws.steps_leave_the_edges.Goals as goal

pub returns : goal.returns
returns c = edges_after
