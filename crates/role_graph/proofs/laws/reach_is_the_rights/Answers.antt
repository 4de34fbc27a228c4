use Rattle.role_graph.proofs.Rightful.{rights_by_reach}
use Rattle.role_graph.proofs.laws.reach_is_the_rights.Goals as goal

pub returns : goal.returns
returns c = rights_by_reach
