use Rattle.std.proofs.Common.{List, ◌++◌, map, ap, ◌∙◌}
use Rattle.cry_base.specs.Store.{Store}
use Rattle.cry_base.specs.declared.ids.FolderId.{FolderId}
use Rattle.cry_base.specs.declared.roles.Edge.{Edge}
use Rattle.role_graph.specs.Edges.{grant_edge}
use Rattle.role_graph.specs.PublicStore.{public_store}
use Rattle.role_graph.proofs.Falling.{tree_public}
use Rattle.role_graph.proofs.RoleEdges.{holder_from}
use Rattle.role_graph.proofs.store_roles.StoreRoles.from_holder.Goals as goal

pub returns : goal.returns
returns c =
    let tree = c.args.self.now.shape.now.tree in
    let pairs = c.args.self.now.grants.now.pairs in
    let s : Store = public_store tree pairs in
    let is = tree_public tree pairs c.is_tree.ensures in
    let h = c.args.h in
    c.in_ok-push_granted.ensures
    ∙ ap (λ (l : List Edge). c.args.found.now.items ++ l) (ap (map (λ (f : FolderId). grant_edge h.0 f.0)) (c.as_slice.ensures ∙ c.in_ok-folders.ensures.folders) ∙ holder_from s is h)
