use Rattle.std.proofs.Common.{map}
use Rattle.std.proofs.lemmas.Result.{IfOk-weaker}
use Rattle.std.proofs.lemmas.Bool.{ne_eqb}
use Rattle.cry_base.specs.Listed.{Listed}
use Rattle.cry_base.specs.Store.{folder_entry}
use Rattle.cry_base.specs.declared.ids.FolderId.{FolderId}
use Rattle.folder_nodes.specs.Inside.{AreListed, is_child_of}
use Rattle.role_graph.specs.Adjacent.{AreChildren}
use Rattle.role_graph.proofs.AtRoles.{children_listed}
use Rattle.role_graph.proofs.store_roles.StoreRoles.children.Goals as goal

pub returns : goal.returns
returns c =
    let tree = c.args.self.now.shape.now.tree in
    let f = c.args.f in
    IfOk-weaker c.folders_in.result (λ (l : Listed FolderId). AreListed (λ g. is_child_of f.0 (folder_entry tree g)) (map (λ (g : FolderId). g.0) l.items))
    (λ (l : Listed FolderId). AreChildren tree f.0 (map (λ (g : FolderId). g.0) l.items))
    (λ l are. children_listed tree c.is_tree.ensures f.0 (map (λ (g : FolderId). g.0) l.items) (ne_eqb f.0 0 c.if-f-eq0.false) are) c.folders_in.ensures
