use Rattle.std.proofs.Common.{List, [], ◌∷◌, ◌++◌, sym, ap, ◌∙◌, append-nil}
use Rattle.cry_base.specs.Store.{Store}
use Rattle.cry_base.specs.declared.roles.Edge.{Edge}
use Rattle.folder_nodes.specs.Looking.{parent_id}
use Rattle.role_graph.specs.Adjacent.{where_stands}
use Rattle.role_graph.specs.Edges.{edge, file_edge, grant_edge}
use Rattle.role_graph.specs.PublicStore.{public_store}
use Rattle.role_graph.specs.Roles.{holder_role, clear_of, sub_of, back_of, files_of, data_of, file_role}
use Rattle.role_graph.proofs.Falling.{tree_public}
use Rattle.role_graph.proofs.RoleEdges.{added_twice, beyond, entry_public, where_public, sub_into}
use Rattle.role_graph.proofs.store_roles.StoreRoles.into_sub.Goals as goal

pub returns-in_default : goal.returns-in_default
unfolding clear_of sub_of back_of files_of data_of file_role grant_edge file_edge edge holder_role
returns-in_default c =
    let tree = c.args.self.now.shape.now.tree in
    let pairs = c.args.self.now.grants.now.pairs in
    let s : Store = public_store tree pairs in
    let is = tree_public tree pairs c.is_tree.ensures in
    let f = c.args.f in
    let none = c.in_default.ensures ∙ ap parent_id (entry_public tree pairs f.0) in
    c.in_ok-add_within.ensures
    ∙ ap (λ (l : List Edge). c.args.found.now.items ++ l)
    (ap (λ (x : Edge). where_stands tree f.0 (x ∷ [])) c.clear_to_sub.ensures ∙ where_public tree pairs f.0 (edge 3 (clear_of f.0) (sub_of f.0) ∷ [])
    ∙ sym (append-nil (where_stands s f.0 (edge 3 (clear_of f.0) (sub_of f.0) ∷ [])))
    ∙ ap (λ o. where_stands s f.0 (edge 3 (clear_of f.0) (sub_of f.0) ∷ []) ++ beyond (λ p. edge 6 (sub_of p.0) (sub_of f.0)) o) none ∙ sub_into s is f)

pub returns : goal.returns
unfolding clear_of sub_of back_of files_of data_of file_role grant_edge file_edge edge holder_role
returns c =
    let tree = c.args.self.now.shape.now.tree in
    let pairs = c.args.self.now.grants.now.pairs in
    let s : Store = public_store tree pairs in
    let is = tree_public tree pairs c.is_tree.ensures in
    let f = c.args.f in
    let up = c.in-Some.ensures ∙ ap parent_id (entry_public tree pairs f.0) in
    added_twice c.args.found.now.items (where_stands s f.0 (edge 3 (clear_of f.0) (sub_of f.0) ∷ [])) (c.sub_to_sub.result ∷ []) _ c.add_within.new.found.items c.push.new.self.items
    (c.in_ok-add_within.ensures ∙ ap (λ (l : List Edge). c.args.found.now.items ++ l) (ap (λ (x : Edge). where_stands tree f.0 (x ∷ [])) c.clear_to_sub.ensures ∙ where_public tree pairs f.0 (edge 3 (clear_of f.0) (sub_of f.0) ∷ [])))
    c.in_ok-push.ensures.items
    (ap (λ (x : Edge). where_stands s f.0 (edge 3 (clear_of f.0) (sub_of f.0) ∷ []) ++ x ∷ []) c.sub_to_sub.ensures ∙ ap (λ o. where_stands s f.0 (edge 3 (clear_of f.0) (sub_of f.0) ∷ []) ++ beyond (λ p. edge 6 (sub_of p.0) (sub_of f.0)) o) up ∙ sub_into s is f)
