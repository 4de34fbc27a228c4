use Rattle.std.proofs.Common.{List, [], ◌∷◌, ◌++◌, map, ap, ◌∙◌}
use Rattle.cry_base.specs.Store.{Store}
use Rattle.cry_base.specs.declared.ids.FolderId.{FolderId}
use Rattle.cry_base.specs.declared.roles.Edge.{Edge}
use Rattle.role_graph.specs.Adjacent.{where_stands}
use Rattle.role_graph.specs.Edges.{edge, file_edge, grant_edge}
use Rattle.role_graph.specs.PublicStore.{public_store}
use Rattle.role_graph.specs.Roles.{holder_role, clear_of, sub_of, back_of, files_of, data_of, file_role}
use Rattle.role_graph.proofs.Falling.{tree_public}
use Rattle.role_graph.proofs.RoleEdges.{added_twice, where_public, back_into}
use Rattle.role_graph.proofs.store_roles.StoreRoles.into_back.Goals as goal

pub returns : goal.returns
unfolding clear_of sub_of back_of files_of data_of file_role grant_edge file_edge edge holder_role
returns c =
    let tree = c.args.self.now.shape.now.tree in
    let pairs = c.args.self.now.grants.now.pairs in
    let s : Store = public_store tree pairs in
    let is = tree_public tree pairs c.is_tree.ensures in
    let f = c.args.f in
    let ids = c.in_ok-children.children.items in
    added_twice c.args.found.now.items (where_stands s f.0 (edge 4 (sub_of f.0) (back_of f.0) ∷ [])) (map (λ (g : FolderId). edge 8 (back_of g.0) (back_of f.0)) ids) _ c.add_within.new.found.items c.push_child_starts.new.found.items
    (c.in_ok-add_within.ensures ∙ ap (λ (l : List Edge). c.args.found.now.items ++ l) (ap (λ (x : Edge). where_stands tree f.0 (x ∷ [])) c.sub_to_back.ensures ∙ where_public tree pairs f.0 (edge 4 (sub_of f.0) (back_of f.0) ∷ [])))
    (c.in_ok-push_child_starts.ensures ∙ ap (λ (l : List FolderId). c.add_within.new.found.items ++ map (λ (g : FolderId). edge 8 (back_of g.0) (back_of f.0)) l) c.as_slice.ensures)
    (back_into s is f ids c.in_ok-children.ensures)
