use Rattle.head_tree.proofs.Proofs.{part_proof-all, part_proof-left, part_proof-right}
use Rattle.head_tree.proofs.laws.proof_is_split.Goals as goal

pub returns : goal.returns
returns c = record { all = part_proof-all; left = part_proof-left; right = part_proof-right }
