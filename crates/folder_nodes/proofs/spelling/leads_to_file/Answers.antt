use Rattle.std.proofs.Common.{◌∙◌}
use Rattle.folder_nodes.specs.Bare.{file_of_row}
use Rattle.folder_nodes.proofs.Leading.{no_file_leads, lead_file, lead_file_apart}
use Rattle.folder_nodes.proofs.spelling.leads_to_file.Goals as goal

pub returns-in_default : goal.returns-in_default
returns-in_default c = no_file_leads c.args.shape.now.tree c.args.names.now c.args.x c.args.bytes.now c.in_default.ensures

pub returns-in-Some-before_name : goal.returns-in-Some-before_name
returns-in-Some-before_name c =
    c.leads_to_folder.ensures ∙ lead_file c.args.shape.now.tree c.args.names.now c.is_tree.ensures c.args.x (file_of_row c.in-Some.row) c.args.bytes.now c.in-Some-before_name.front.now c.in-Some.ensures c.in-Some-before_name.ensures

pub returns-in-None : goal.returns-in-None
returns-in-None c = lead_file_apart c.args.shape.now.tree c.args.names.now c.args.x (file_of_row c.in-Some.row) c.args.bytes.now c.in-Some.ensures c.in-None.ensures
