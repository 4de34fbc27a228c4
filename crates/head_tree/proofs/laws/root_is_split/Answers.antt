use Rattle.head_tree.proofs.Trees.{tree_hash-one, tree_hash-split}
use Rattle.head_tree.proofs.laws.root_is_split.Goals as goal

pub returns : goal.returns
returns c = record { one = tree_hash-one; more = tree_hash-split }
