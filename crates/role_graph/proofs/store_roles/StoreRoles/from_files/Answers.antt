use Rattle.std.proofs.Common.{List, ◌++◌, map, ap, ◌∙◌}
use Rattle.cry_base.specs.Store.{Store, file_entry}
use Rattle.cry_base.specs.declared.ids.FileId.{FileId}
use Rattle.cry_base.specs.declared.roles.Edge.{Edge}
use Rattle.role_graph.specs.Edges.{edge, file_edge, grant_edge}
use Rattle.role_graph.specs.PublicStore.{public_store}
use Rattle.role_graph.specs.Roles.{holder_role, clear_of, sub_of, back_of, files_of, data_of, file_role}
use Rattle.role_graph.proofs.Falling.{tree_public}
use Rattle.role_graph.proofs.RoleEdges.{files_from}
use Rattle.role_graph.proofs.store_roles.StoreRoles.from_files.Goals as goal

pub returns : goal.returns
unfolding clear_of sub_of back_of files_of data_of file_role grant_edge file_edge edge holder_role file_entry
returns c =
    let tree = c.args.self.now.shape.now.tree in
    let pairs = c.args.self.now.grants.now.pairs in
    let s : Store = public_store tree pairs in
    let is = tree_public tree pairs c.is_tree.ensures in
    let f = c.args.f in
    c.in_ok-push_files.ensures
    ∙ ap (λ (l : List Edge). c.args.found.now.items ++ l) (ap (map (λ (x : FileId). file_edge f.0 x.0)) c.as_slice.ensures ∙ files_from s is f c.in_ok-files.files.items c.in_ok-files.ensures)
