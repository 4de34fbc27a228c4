use Rattle.std.proofs.Common.{◌≡◌, Some, sym, ◌∙◌}
use Rattle.cry_base.specs.Naming.{parent_path}
use Rattle.cry_base.specs.Store.{node_at}
use Rattle.cry_base.specs.declared.roles.Node.TheVariants.{Folder}
use Rattle.folder_nodes.specs.Targets.IsTargetOf.{WritesFile}
use Rattle.folder_nodes.specs.Titles.{tree_store}
use Rattle.folder_nodes.proofs.targets.find_written.Goals as goal

pub returns-clause-found : goal.returns-clause-found
returns-clause-found c =
    let place : node_at (tree_store c.args.shape.now.tree c.args.names.now) (parent_path c.args.path.now) ≡ Some (Folder c.in-Folder.folder) = cc in
    WritesFile place (sym c.ends_of-ends.ensures.node ∙ c.in_ok-file.ensures.found) c.last_piece.ensures
