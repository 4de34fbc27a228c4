use Rattle.std.proofs.Common.{◌∙◌, ap}
use Rattle.cry_base.specs.Naming.{is_name}
use Rattle.folder_nodes.proofs.Slashes.{path_parts}
use Rattle.folder_nodes.proofs.Walked.{child_told, file_child_told}
use Rattle.folder_nodes.proofs.finding.child_with.Goals as goal

pub folders_to_try-folders-requires : goal.folders_to_try-folders-requires
folders_to_try-folders-requires c = ap is_name c.last_piece-name.ensures ∙ (path_parts c.args.path.now c.requires.form c.requires.other).1

pub returns-in-Some : goal.returns-in-Some
returns-in-Some c =
    child_told c.args.shape.now.tree c.args.names.now c.is_tree.ensures c.are_names.ensures.folders c.are_names.ensures.files c.args.path.now c.requires.form c.requires.other c.args.f c.requires.way c.last_piece-name.result.now c.last_piece-name.ensures
    c.folders_to_try-folders.result c.folders_to_try-folders.ensures.rising c.folders_to_try-folders.ensures.all c.in-Some.folder c.in-Some.ensures

pub files_to_try-files-requires : goal.files_to_try-files-requires
files_to_try-files-requires c = ap is_name c.last_piece-name.ensures ∙ (path_parts c.args.path.now c.requires.form c.requires.other).1

pub returns : goal.returns
returns c =
    c.file_node.ensures
    ∙ file_child_told c.args.shape.now.tree c.args.names.now c.is_tree.ensures c.are_names.ensures.folders c.are_names.ensures.files c.args.path.now c.requires.form c.requires.other c.args.f c.requires.way c.last_piece-name.result.now c.last_piece-name.ensures
    c.folders_to_try-folders.result c.files_to_try-files.result c.folders_to_try-folders.ensures.rising c.files_to_try-files.ensures.rising c.folders_to_try-folders.ensures.all c.files_to_try-files.ensures.all c.in_default.ensures c.first_file.result c.first_file.ensures
