use Rattle.std.proofs.Common.{◌≡◌, Some}
use Rattle.cry_base.specs.Store.{node_at}
use Rattle.folder_nodes.specs.Targets.IsTargetOf.{Renames}
use Rattle.folder_nodes.specs.Titles.{tree_store}
use Rattle.folder_nodes.proofs.targets.find_renamed.Goals as goal

pub returns-clause-found : goal.returns-clause-found
returns-clause-found c =
    let found : node_at (tree_store c.args.shape.now.tree c.args.names.now) c.args.path.now ≡ Some c.in-Some.node = cc in
    Renames found
