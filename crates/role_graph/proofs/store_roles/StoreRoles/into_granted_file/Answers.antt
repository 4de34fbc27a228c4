use Rattle.std.proofs.Common.{List, [], ◌∷◌, ◌++◌, sym, ap, ◌∙◌}
use Rattle.cry_base.specs.declared.ids.FolderId.{FolderId}
use Rattle.cry_base.specs.declared.roles.Edge.{Edge}
use Rattle.role_graph.proofs.AtClearances.{cleared_file, gone_file, lone_file, none_granted, nothing_more, some_granted}
use Rattle.role_graph.proofs.Falling.{tree_public}
use Rattle.role_graph.proofs.store_roles.StoreRoles.into_granted_file.Goals as goal

pub returns-in_default : goal.returns-in_default
returns-in_default c =
    let tree = c.args.self.now.shape.now.tree in
    let pairs = c.args.self.now.grants.now.pairs in
    let is = tree_public tree pairs c.is_tree.ensures in
    nothing_more c.args.found.now.items _ (lone_file tree pairs is c.args.x (none_granted _ _ c.in_default.ensures.value))

pub returns-in_default-folder_of : goal.returns-in_default-folder_of
returns-in_default-folder_of c =
    let tree = c.args.self.now.shape.now.tree in
    let pairs = c.args.self.now.grants.now.pairs in
    let is = tree_public tree pairs c.is_tree.ensures in
    nothing_more c.args.found.now.items _ (gone_file tree pairs is c.args.x c.in_default-folder_of.ensures)

pub returns : goal.returns
returns c =
    let tree = c.args.self.now.shape.now.tree in
    let pairs = c.args.self.now.grants.now.pairs in
    let is = tree_public tree pairs c.is_tree.ensures in
    let told = some_granted _ _ c.in-Some.c c.in-Some.ensures.value in
    c.in_ok-push.ensures.items
    ∙ ap (λ (l : List Edge). c.args.found.now.items ++ l)
    (ap (λ (e : Edge). e ∷ []) c.clearance_to_file.ensures
    ∙ sym (cleared_file tree pairs is c.args.x c.in-Some.c c.in-Some-folder_of._folder (ap (λ (z : FolderId). z.0) told.1) told.0 c.in-Some-folder_of.ensures))
