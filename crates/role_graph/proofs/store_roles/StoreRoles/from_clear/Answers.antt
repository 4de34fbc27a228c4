use Rattle.std.proofs.Common.{List, [], ◌∷◌, ◌++◌, ap, ◌∙◌}
use Rattle.cry_base.specs.Store.{Store}
use Rattle.cry_base.specs.declared.roles.Edge.{Edge}
use Rattle.role_graph.specs.Adjacent.{where_stands}
use Rattle.role_graph.specs.Edges.{edge, file_edge, grant_edge}
use Rattle.role_graph.specs.PublicStore.{public_store}
use Rattle.role_graph.specs.Roles.{holder_role, clear_of, sub_of, back_of, files_of, data_of, file_role}
use Rattle.role_graph.proofs.Falling.{tree_public}
use Rattle.role_graph.proofs.RoleEdges.{where_public, clear_from}
use Rattle.role_graph.proofs.store_roles.StoreRoles.from_clear.Goals as goal

pub returns : goal.returns
unfolding clear_of sub_of back_of files_of data_of file_role grant_edge file_edge edge holder_role
returns c =
    let tree = c.args.self.now.shape.now.tree in
    let pairs = c.args.self.now.grants.now.pairs in
    let s : Store = public_store tree pairs in
    let is = tree_public tree pairs c.is_tree.ensures in
    let f = c.args.f in
    c.in_ok-add_within.ensures
    ∙ ap (λ (l : List Edge). c.args.found.now.items ++ l) (ap (λ (x : Edge). where_stands tree f.0 (x ∷ [])) c.clear_to_sub.ensures ∙ where_public tree pairs f.0 (edge 3 (clear_of f.0) (sub_of f.0) ∷ []) ∙ clear_from s is f)
