use Rattle.head_tree.proofs.Prefixes.{first_head}
use Rattle.head_tree.proofs.laws.heads_are_of_first_leaves.Goals as goal

pub returns : goal.returns
returns c = first_head
