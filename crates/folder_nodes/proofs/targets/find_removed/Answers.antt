use Rattle.std.proofs.Common.{◌≡◌, Some}
use Rattle.cry_base.specs.Store.{node_at}
use Rattle.folder_nodes.specs.Titles.{tree_store}
use Rattle.folder_nodes.specs.Targets.IsTargetOf.{Removes}
use Rattle.folder_nodes.proofs.Checked.{found_stands}
use Rattle.folder_nodes.proofs.targets.find_removed.Goals as goal

pub has_children-requires : goal.has_children-requires
has_children-requires c =
    let found : node_at (tree_store c.args.shape.now.tree c.args.names.now) c.args.path.now ≡ Some c.in-Some.node = cc in
    found_stands c.args.shape.now.tree c.args.names.now c.args.path.now c.in-Some.node found

pub returns-clause-found : goal.returns-clause-found
returns-clause-found c =
    let found : node_at (tree_store c.args.shape.now.tree c.args.names.now) c.args.path.now ≡ Some c.in-Some.node = cc in
    Removes found
