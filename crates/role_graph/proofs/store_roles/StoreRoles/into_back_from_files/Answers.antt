use Rattle.std.proofs.Common.{◌==◌, cond, List, [], ◌∷◌, ◌++◌, ap, ◌∙◌}
use Rattle.std.specs.List.{flat_map, list_any}
use Rattle.cry_base.specs.Clearances.{clear_number}
use Rattle.cry_base.specs.Store.{GrantEntry}
use Rattle.cry_base.specs.declared.ids.FileId.{FileId}
use Rattle.cry_base.specs.declared.roles.Edge.{Edge}
use Rattle.role_graph.specs.Edges.{edge}
use Rattle.role_graph.specs.Roles.{back_of, clear_of}
use Rattle.role_graph.proofs.AtClearances.{back_into}
use Rattle.role_graph.proofs.Falling.{tree_public}
use Rattle.role_graph.proofs.store_roles.StoreRoles.into_back_from_files.Goals as goal

pub returns : goal.returns
returns c =
    let tree = c.args.self.now.shape.now.tree in
    let pairs = c.args.self.now.grants.now.pairs in
    let is = tree_public tree pairs c.is_tree.ensures in
    let k : List FileId → List Edge = λ ids. flat_map (λ (x : FileId). cond (list_any (λ (g : GrantEntry). g.folder == clear_number x.0) pairs) (edge 11 (clear_of (clear_number x.0)) (back_of c.args.f.0) ∷ []) []) ids in
    c.in_ok-push_backs.ensures
    ∙ ap (λ (l : List Edge). c.args.found.now.items ++ l) (ap k c.as_slice.ensures ∙ back_into tree pairs is c.args.f c.in_ok-files.files.items c.in_ok-files.ensures)
