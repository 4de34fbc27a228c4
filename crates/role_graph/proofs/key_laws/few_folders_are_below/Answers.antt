use Rattle.role_graph.proofs.Standing.{few_below}
use Rattle.role_graph.proofs.key_laws.few_folders_are_below.Goals as goal

pub returns : goal.returns
returns c = few_below c.args.shape.now.tree c.is_tree.ensures
