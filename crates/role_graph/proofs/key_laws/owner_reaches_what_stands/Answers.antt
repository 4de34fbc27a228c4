use Rattle.role_graph.proofs.Settling.{owner_clearances, owner_folders, owner_files}
use Rattle.role_graph.proofs.key_laws.owner_reaches_what_stands.Goals as goal

pub returns-clause-folders : goal.returns-clause-folders
returns-clause-folders c = owner_folders c.args.shape.now.tree c.args.grants.now.pairs

pub returns-clause-files : goal.returns-clause-files
returns-clause-files c = owner_files c.args.shape.now.tree c.args.grants.now.pairs c.is_tree.ensures

pub returns-clause-clearances : goal.returns-clause-clearances
returns-clause-clearances c = owner_clearances c.args.shape.now.tree c.args.grants.now.pairs
