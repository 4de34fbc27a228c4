use Rattle.log_visits.proofs.Sighted.{holders_listed, owners_listed}
use Rattle.log_visits.proofs.sights.all_sights.Goals as goal

pub returns-in-Owner-clause-sights : goal.returns-in-Owner-clause-sights
returns-in-Owner-clause-sights c =
    owners_listed c.args.state.now c.shape-shape.result.now.tree c.args.viewer c.folders-rows.result c.owners_sights.result c.in-Owner.is c.shape-shape.ensures c.folders-rows.ensures c.owners_sights.ensures

pub returns-in-Holder-clause-sights : goal.returns-in-Holder-clause-sights
returns-in-Holder-clause-sights c =
    holders_listed c.args.state.now c.shape-shape.result.now.tree c.grants.result.now.pairs c.args.viewer c.in-Holder.h c.folders-rows.result c.holders_sights.result c.in-Holder.is c.shape-shape.ensures
    c.grants.ensures.pairs c.is_tree.ensures c.folders-rows.ensures c.holders_sights.ensures
