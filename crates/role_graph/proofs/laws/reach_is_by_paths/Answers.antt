use Rattle.role_graph.proofs.Comparing.{reach_one}
use Rattle.role_graph.proofs.laws.reach_is_by_paths.Goals as goal

pub returns : goal.returns
returns c = reach_one
