use Rattle.std.proofs.Common.{List, [], ◌∷◌, ◌++◌, sym, ap, ◌∙◌, append-nil}
use Rattle.cry_base.specs.Store.{Store}
use Rattle.cry_base.specs.declared.roles.Edge.{Edge}
use Rattle.folder_nodes.specs.Looking.{folder_id_of}
use Rattle.role_graph.specs.Edges.{edge, file_edge, grant_edge}
use Rattle.role_graph.specs.PublicStore.{public_store}
use Rattle.role_graph.specs.Roles.{holder_role, clear_of, sub_of, back_of, files_of, data_of, file_role}
use Rattle.role_graph.proofs.Falling.{tree_public}
use Rattle.role_graph.proofs.RoleEdges.{beyond, file_public, file_into}
use Rattle.role_graph.proofs.store_roles.StoreRoles.into_file.Goals as goal

pub returns-in_default : goal.returns-in_default
unfolding clear_of sub_of back_of files_of data_of file_role grant_edge file_edge edge holder_role
returns-in_default c =
    let tree = c.args.self.now.shape.now.tree in
    let pairs = c.args.self.now.grants.now.pairs in
    let s : Store = public_store tree pairs in
    let is = tree_public tree pairs c.is_tree.ensures in
    let x = c.args.x in
    sym (append-nil c.args.found.now.items)
    ∙ ap (λ (l : List Edge). c.args.found.now.items ++ l) (ap (beyond (λ f. edge 9 (files_of f.0) (file_role x.0))) (c.in_default.ensures ∙ ap folder_id_of (file_public tree pairs x.0)) ∙ file_into s is x)

pub returns : goal.returns
unfolding clear_of sub_of back_of files_of data_of file_role grant_edge file_edge edge holder_role
returns c =
    let tree = c.args.self.now.shape.now.tree in
    let pairs = c.args.self.now.grants.now.pairs in
    let s : Store = public_store tree pairs in
    let is = tree_public tree pairs c.is_tree.ensures in
    let x = c.args.x in
    c.in_ok-push.ensures.items
    ∙ ap (λ (l : List Edge). c.args.found.now.items ++ l) (ap (λ (z : Edge). z ∷ []) c.files_to_file.ensures ∙ ap (beyond (λ f. edge 9 (files_of f.0) (file_role x.0))) (c.in-Some.ensures ∙ ap folder_id_of (file_public tree pairs x.0)) ∙ file_into s is x)
