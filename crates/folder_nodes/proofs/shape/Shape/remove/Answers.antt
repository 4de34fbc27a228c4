use Rattle.cry_base.specs.Stepping.{without_node}
use Rattle.folder_nodes.proofs.shape.Shape.remove.Goals as goal

pub returns-in-Folder-clause-tree : goal.returns-in-Folder-clause-tree
unfolding without_node
returns-in-Folder-clause-tree c = rw c.in-Folder.is c.remove_folder.ensures.tree

pub returns-in-File-clause-tree : goal.returns-in-File-clause-tree
unfolding without_node
returns-in-File-clause-tree c = rw c.in-File.is c.remove_file.ensures.tree
