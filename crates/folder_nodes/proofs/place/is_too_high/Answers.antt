use Rattle.std.proofs.Common.{◌+◌, ◌∙◌, Some, ap, sym}
use Rattle.cry_base.specs.Refusing.{height_of}
use Rattle.cry_base.specs.Store.{folder_node}
use Rattle.folder_nodes.proofs.Placed.{deep_told, file_deep_told, high_as, full_as}
use Rattle.folder_nodes.proofs.place.is_too_high.Goals as goal

pub returns-in-Folder : goal.returns-in-Folder
returns-in-Folder c =
    let s = c.args.shape.now.tree in
    let n = c.args.names.now in
    high_as c.depth-left.result c.height.result _ (deep_told s n c.args.node c.in-Folder.folder c.args.into c.in-Folder.is
    ∙ ap (λ k. k + 1 + height_of s (Some (folder_node c.in-Folder.folder.0))) (sym c.depth-left.ensures.depth)
    ∙ ap (λ k. c.depth-left.result + 1 + k) (sym c.height.ensures))

pub returns-in-File : goal.returns-in-File
returns-in-File c =
    let s = c.args.shape.now.tree in
    let n = c.args.names.now in
    full_as c.depth-left.result _ c.depth-left.ensures.within (file_deep_told s n c.args.node c.in-File.field-0 c.args.into c.in-File.is
    ∙ ap (λ k. k + 1 + 0) (sym c.depth-left.ensures.depth))
