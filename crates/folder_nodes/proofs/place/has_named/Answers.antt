use Rattle.std.proofs.Common.{◌∙◌}
use Rattle.folder_nodes.proofs.Taken.{taken_by_folder, taken_by_file}
use Rattle.folder_nodes.proofs.place.has_named.Goals as goal

pub returns-then-has_folder_in : goal.returns-then-has_folder_in
returns-then-has_folder_in c =
    taken_by_folder c.args.shape.now.tree c.args.names.now c.is_tree.ensures c.args.f c.args.name.now c.folders_to_try.result c.folders_to_try.ensures.all c.if-has_folder_in.ensures

pub returns : goal.returns
returns c =
    c.has_file_in.ensures
    ∙ taken_by_file c.args.shape.now.tree c.args.names.now c.is_tree.ensures c.args.f c.args.name.now c.folders_to_try.result c.files_to_try.result c.folders_to_try.ensures.all c.files_to_try.ensures.all c.if-has_folder_in.ensures
