use Rattle.log_visits.proofs.Entering.{entry_pushed, no_entry_pushed}
use Rattle.log_visits.proofs.entry_files.push_entry.Goals as goal

pub returns-in-Some : goal.returns-in-Some
returns-in-Some c =
    entry_pushed c.args.shape.now.tree c.args.grants.now.pairs c.args.h.0 c.args.number c.in-Some.file c.file_named.result c.args.entries.now.items c.push_file.new.entries.items c.push_file.result
    c.file_named.ensures c.in-Some.is c.push_file.ensures

pub returns-in-None : goal.returns-in-None
returns-in-None c = no_entry_pushed c.args.shape.now.tree c.args.grants.now.pairs c.args.h.0 c.args.number c.file_named.result c.args.entries.now.items c.file_named.ensures c.in-None.is
