use Rattle.role_graph.specs.PublicStore.{public_store}
use Rattle.role_graph.proofs.Falling.{tree_public}
use Rattle.role_graph.proofs.Lawful.{no_root, falls, tabled}
use Rattle.role_graph.proofs.store_roles.StoreRolesRoles.laws.Goals as goal

pub returns-clause-no_root : goal.returns-clause-no_root
returns-clause-no_root c = no_root (public_store c.args.self.now.shape.now.tree c.args.self.now.grants.now.pairs)

pub returns-clause-falls : goal.returns-clause-falls
returns-clause-falls c =
    let tree = c.args.self.now.shape.now.tree in
    let pairs = c.args.self.now.grants.now.pairs in
    falls (public_store tree pairs) (tree_public tree pairs c.is_tree.ensures)

pub returns-clause-tabled : goal.returns-clause-tabled
returns-clause-tabled c = tabled (public_store c.args.self.now.shape.now.tree c.args.self.now.grants.now.pairs)
