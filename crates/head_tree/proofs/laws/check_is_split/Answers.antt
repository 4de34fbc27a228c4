use Rattle.std.proofs.Common.{[], refl}
use Rattle.head_tree.proofs.Checks.{proof_check-same, proof_check-lacking, check-left, check-right}
use Rattle.head_tree.proofs.laws.check_is_split.Goals as goal

pub returns : goal.returns
returns c = record {
  same = proof_check-same;
  lacking = λ root m n whole less. proof_check-lacking root m n [] whole less refl;
  left = check-left;
  right = check-right;
}
