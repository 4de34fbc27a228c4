use Rattle.role_graph.proofs.Typing.{owner_shown}
use Rattle.role_graph.proofs.laws.owner_is_shown_all.Goals as goal

pub returns : goal.returns
returns c = owner_shown
