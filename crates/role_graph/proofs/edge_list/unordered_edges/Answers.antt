use Rattle.role_graph.proofs.Listing.{listed_is}
use Rattle.role_graph.proofs.edge_list.unordered_edges.Goals as goal

pub returns : goal.returns
returns c =
    listed_is c.args.shape.now.tree c.args.grants.now.pairs c.pairs.result.now c.folders.result c.folders-2.result c.files.result c.files-2.result
    c.new-all.result.items c.push_within.new.all.items c.push_between.new.all.items c.push_grants.new.all.items c.push_files.new.all.items
    c.push_clearances.new.all.items
    c.folders.ensures c.folders-2.ensures c.pairs.ensures.pairs c.files.ensures c.files-2.ensures c.new-all.ensures.items
    c.in_ok-push_within.ensures c.in_ok-push_between.ensures c.in_ok-push_grants.ensures c.in_ok-push_files.ensures c.in_ok-push_clearances.ensures
