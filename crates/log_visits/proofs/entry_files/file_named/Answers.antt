use Rattle.log_visits.proofs.Entering.{named_is}
use Rattle.log_visits.proofs.entry_files.file_named.Goals as goal

pub returns : goal.returns
returns c = named_is c.args.shape.now.tree c.args.number c.in_ok-file.file c.in_ok-folder.folder c.in_ok-file.ensures.value c.in_ok-folder.ensures
