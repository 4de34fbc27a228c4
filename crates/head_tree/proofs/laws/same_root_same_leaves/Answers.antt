use Rattle.head_tree.proofs.Prefixes.{same_logs}
use Rattle.head_tree.proofs.laws.same_root_same_leaves.Goals as goal

pub returns : goal.returns
returns c = same_logs
