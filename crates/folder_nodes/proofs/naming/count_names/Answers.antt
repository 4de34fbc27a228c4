use Rattle.std.proofs.Common.{◌∙◌}
use Rattle.folder_nodes.proofs.Slashes.{names_counted}
use Rattle.folder_nodes.proofs.naming.count_names.Goals as goal

pub returns : goal.returns
returns c = c.count_slashes.ensures ∙ names_counted c.args.path.now c.requires.form c.requires.other
