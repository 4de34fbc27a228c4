use Rattle.std.proofs.Common.{List, [], ◌∷◌, ◌++◌, map, ap, ◌∙◌}
use Rattle.cry_base.specs.Store.{Store}
use Rattle.cry_base.specs.declared.ids.HolderId.{HolderId}
use Rattle.cry_base.specs.declared.roles.Role.TheVariants.{Owner}
use Rattle.cry_base.specs.declared.roles.Edge.{Edge}
use Rattle.grant_book.specs.Granted.{holders_on}
use Rattle.role_graph.specs.Adjacent.{where_stands}
use Rattle.role_graph.specs.Edges.{edge, file_edge, grant_edge}
use Rattle.role_graph.specs.PublicStore.{public_store}
use Rattle.role_graph.specs.Roles.{holder_role, clear_of, sub_of, back_of, files_of, data_of, file_role}
use Rattle.role_graph.proofs.Falling.{tree_public}
use Rattle.role_graph.proofs.RoleEdges.{added_twice, where_public, clear_into}
use Rattle.role_graph.proofs.store_roles.StoreRoles.into_clear.Goals as goal

pub returns : goal.returns
unfolding clear_of sub_of back_of files_of data_of file_role grant_edge file_edge edge holder_role
returns c =
    let tree = c.args.self.now.shape.now.tree in
    let pairs = c.args.self.now.grants.now.pairs in
    let s : Store = public_store tree pairs in
    let is = tree_public tree pairs c.is_tree.ensures in
    let f = c.args.f in
    added_twice c.args.found.now.items (where_stands s f.0 (edge 1 Owner (clear_of f.0) ∷ [])) (map (λ (h : HolderId). grant_edge h.0 f.0) (holders_on s.grants f.0)) _ c.add_within.new.found.items c.push_holders.new.found.items
    (c.in_ok-add_within.ensures ∙ ap (λ (l : List Edge). c.args.found.now.items ++ l) (ap (λ (x : Edge). where_stands tree f.0 (x ∷ [])) c.owner_to_clear.ensures ∙ where_public tree pairs f.0 (edge 1 Owner (clear_of f.0) ∷ [])))
    (c.in_ok-push_holders.ensures ∙ ap (λ (l : List HolderId). c.add_within.new.found.items ++ map (λ (h : HolderId). grant_edge h.0 f.0) l) (c.as_slice.ensures ∙ c.in_ok-holders.ensures.holders))
    (clear_into s is f)
