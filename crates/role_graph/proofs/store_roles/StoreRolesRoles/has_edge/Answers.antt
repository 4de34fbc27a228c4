use Rattle.role_graph.proofs.Joining.{looked_up}
use Rattle.role_graph.proofs.store_roles.StoreRolesRoles.has_edge.Goals as goal

pub returns : goal.returns
returns c =
    looked_up c.args.self.now.shape.now.tree c.args.self.now.grants.now.pairs c.is_tree.ensures c.args.from c.args.to
    c.number_of.result c.number_of-2.result c.is_found.result c.number_of.ensures c.number_of-2.ensures c.is_found.ensures
