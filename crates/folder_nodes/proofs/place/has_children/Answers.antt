use Rattle.folder_nodes.proofs.Placed.{children_told}
use Rattle.folder_nodes.proofs.place.has_children.Goals as goal

pub returns-in-Folder : goal.returns-in-Folder
returns-in-Folder c = children_told c.args.shape.now.tree c.args.names.now c.args.node c.in-Folder.folder c.is_empty_folder.result c.in-Folder.is c.is_empty_folder.ensures
