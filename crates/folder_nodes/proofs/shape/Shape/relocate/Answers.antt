use Rattle.cry_base.specs.Stepping.{moved}
use Rattle.folder_nodes.proofs.shape.Shape.relocate.Goals as goal

pub returns-in-Folder-clause-tree : goal.returns-in-Folder-clause-tree
unfolding moved
returns-in-Folder-clause-tree c = rw c.in-Folder.is c.shift_folder.ensures.tree

pub returns-in-File-clause-tree : goal.returns-in-File-clause-tree
unfolding moved
returns-in-File-clause-tree c = rw c.in-File.is c.shift_file.ensures.tree
