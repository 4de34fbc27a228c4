use Rattle.std.proofs.Common.{◌≡◌, Some}
use Rattle.cry_base.specs.Store.{node_at}
use Rattle.cry_base.specs.declared.roles.Node.TheVariants.{Folder}
use Rattle.folder_nodes.specs.Titles.{tree_store}
use Rattle.folder_nodes.specs.Targets.IsTargetOf.{Relocates}
use Rattle.folder_nodes.proofs.Checked.{found_stands, named_folder_stands}
use Rattle.folder_nodes.proofs.targets.find_moved.Goals as goal

pub is_too_high-requires-clause-node : goal.is_too_high-requires-clause-node
is_too_high-requires-clause-node c =
    let found : node_at (tree_store c.args.shape.now.tree c.args.names.now) c.args.path.now ≡ Some c.in-Some.node = cc in
    found_stands c.args.shape.now.tree c.args.names.now c.args.path.now c.in-Some.node found

pub is_too_high-requires-clause-into : goal.is_too_high-requires-clause-into
is_too_high-requires-clause-into c =
    let found : node_at (tree_store c.args.shape.now.tree c.args.names.now) c.args.into.now ≡ Some (Folder c.in-Folder.target) = cc in
    named_folder_stands c.args.shape.now.tree c.args.names.now c.args.into.now c.in-Folder.target found

pub returns-clause-found : goal.returns-clause-found
returns-clause-found c =
    let found : node_at (tree_store c.args.shape.now.tree c.args.names.now) c.args.path.now ≡ Some c.in-Some.node = cc in
    let into : node_at (tree_store c.args.shape.now.tree c.args.names.now) c.args.into.now ≡ Some (Folder c.in-Folder.target) = cc in
    Relocates found into
