use Rattle.std.proofs.Common.{refl}
use Rattle.head_tree.proofs.Growth.{stands-nothing}
use Rattle.head_tree.proofs.frontier.Frontier.new.Goals as goal

pub returns : goal.returns
returns c = record { count = refl; stands = stands-nothing _ 0 }
