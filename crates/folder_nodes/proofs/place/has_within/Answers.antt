use Rattle.folder_nodes.specs.Titles.{tree_store}
use Rattle.folder_nodes.proofs.Placed.{within_told, file_not_within}
use Rattle.folder_nodes.proofs.place.has_within.Goals as goal

pub returns-in-Folder : goal.returns-in-Folder
returns-in-Folder c = within_told c.args.shape.now.tree c.args.names.now c.args.node c.in-Folder.folder c.args.into.0 c.is_within.result c.in-Folder.is c.is_within.ensures

pub returns-in-File : goal.returns-in-File
returns-in-File c = file_not_within (tree_store c.args.shape.now.tree c.args.names.now) c.args.node c.in-File.field-0 c.args.into.0 c.in-File.is
