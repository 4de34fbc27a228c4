use Rattle.log_visits.proofs.Entering.{holders_entered, owners_entered}
use Rattle.log_visits.proofs.entry_files.entry_files_of.Goals as goal

pub returns-in-Owner : goal.returns-in-Owner
returns-in-Owner c = owners_entered c.args.state.now c.args.viewer c.new.result.items c.in-Owner.is c.new.ensures.items

pub returns-in-Holder : goal.returns-in-Holder
returns-in-Holder c =
    holders_entered c.args.state.now c.shape-shape.result.now.tree c.grants.result.now.pairs c.args.viewer c.in-Holder.h c.holders_entries.result c.in-Holder.is c.shape-shape.ensures
    c.grants.ensures.pairs c.is_tree.ensures c.holders_entries.ensures
