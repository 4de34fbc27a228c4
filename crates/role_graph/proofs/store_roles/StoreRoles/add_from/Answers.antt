use Rattle.role_graph.specs.Adjacent.{clearances, out_of, plain_edges}
use Rattle.role_graph.specs.Edges.{unordered}
use Rattle.role_graph.specs.PublicStore.{public_store}
use Rattle.role_graph.proofs.AtClearances.{from_both}
use Rattle.role_graph.proofs.RoleEdges.{added_twice}
use Rattle.role_graph.proofs.store_roles.StoreRoles.add_from.Goals as goal

pub returns : goal.returns
returns c =
    let s = public_store c.args.self.now.shape.now.tree c.args.self.now.grants.now.pairs in
    let r = c.args.role in
    added_twice c.args.found.now.items (out_of (plain_edges s) r) (out_of (clearances s) r) (out_of (unordered s) r)
    c.add_plain_from.new.found.items c.add_clearances_from.new.found.items c.in_ok-add_plain_from.ensures c.in_ok-add_clearances_from.ensures (from_both s r)
