use Rattle.std.proofs.Common.{◌++◌, ◌∙◌}
use Rattle.cry_base.specs.Store.{Store}
use Rattle.role_graph.specs.PublicStore.{public_store}
use Rattle.role_graph.proofs.Falling.{tree_public}
use Rattle.role_graph.proofs.RoleEdges.{owner_from}
use Rattle.role_graph.proofs.store_roles.StoreRoles.from_owner.Goals as goal

pub returns : goal.returns
returns c =
    let tree = c.args.self.now.shape.now.tree in
    let pairs = c.args.self.now.grants.now.pairs in
    let s : Store = public_store tree pairs in
    let is = tree_public tree pairs c.is_tree.ensures in
    c.in_ok-push_folders.ensures ∙ (λ k. c.in_ok-reserve.ensures.items k ++ owner_from s is c.folders.result c.folders.ensures k)
