use Rattle.std.proofs.Common.{◌∙◌, Some, ap, sym}
use Rattle.cry_base.specs.Refusing.{parent_of}
use Rattle.cry_base.specs.declared.roles.Node.{Node}
use Rattle.folder_nodes.specs.Titles.{tree_store}
use Rattle.folder_nodes.proofs.Placed.{parent_told, file_parent_told}
use Rattle.folder_nodes.proofs.place.parent_number.Goals as goal

pub returns-in-Folder : goal.returns-in-Folder
returns-in-Folder c =
    let s = c.args.shape.now.tree in
    let n = c.args.names.now in
    c.parent_number.ensures ∙ parent_told s n c.in-Folder.folder ∙ ap (λ (z : Node). parent_of (tree_store s n) (Some z)) (sym c.in-Folder.is)

pub returns-in-File : goal.returns-in-File
returns-in-File c =
    let s = c.args.shape.now.tree in
    let n = c.args.names.now in
    c.folder_number.ensures ∙ file_parent_told s n c.in-File.file ∙ ap (λ (z : Node). parent_of (tree_store s n) (Some z)) (sym c.in-File.is)
