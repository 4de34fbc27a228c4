use Rattle.std.proofs.Common.{List, ◌++◌, ap, ◌∙◌}
use Rattle.cry_base.specs.declared.roles.Edge.{Edge}
use Rattle.role_graph.proofs.AtClearances.{owner_from}
use Rattle.role_graph.proofs.Falling.{tree_public}
use Rattle.role_graph.proofs.store_roles.StoreRoles.from_owner_to_files.Goals as goal

pub returns : goal.returns
returns c =
    let tree = c.args.self.now.shape.now.tree in
    let pairs = c.args.self.now.grants.now.pairs in
    let is = tree_public tree pairs c.is_tree.ensures in
    c.in_ok-push_owners.ensures ∙ ap (λ (l : List Edge). c.args.found.now.items ++ l) (owner_from tree pairs is c.files.result c.files.ensures)
