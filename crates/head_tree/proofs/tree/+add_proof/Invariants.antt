use Rattle.std.proofs.Common.{length}
use Rattle.head_tree.proofs.tree.+add_proof.Given as goal

abbrev pub decreases-add_proof : goal.decreases-add_proof
decreases-add_proof l = length l.leaves.now
