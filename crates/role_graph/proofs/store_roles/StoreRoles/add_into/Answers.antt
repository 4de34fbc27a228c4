use Rattle.role_graph.specs.Adjacent.{clearances, into, plain_edges}
use Rattle.role_graph.specs.Edges.{unordered}
use Rattle.role_graph.specs.PublicStore.{public_store}
use Rattle.role_graph.proofs.AtClearances.{into_both}
use Rattle.role_graph.proofs.RoleEdges.{added_twice}
use Rattle.role_graph.proofs.store_roles.StoreRoles.add_into.Goals as goal

pub returns : goal.returns
returns c =
    let s = public_store c.args.self.now.shape.now.tree c.args.self.now.grants.now.pairs in
    let r = c.args.role in
    added_twice c.args.found.now.items (into (plain_edges s) r) (into (clearances s) r) (into (unordered s) r)
    c.add_plain_into.new.found.items c.add_clearances_into.new.found.items c.in_ok-add_plain_into.ensures c.in_ok-add_clearances_into.ensures (into_both s r)
