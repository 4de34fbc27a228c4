use Rattle.std.proofs.Common.{List, [], ◌∷◌, ◌++◌, sym, ap, ◌∙◌}
use Rattle.cry_base.specs.declared.roles.Edge.{Edge}
use Rattle.role_graph.proofs.AtClearances.{cleared_into, gone_into, lone_into, low_into, nothing_more}
use Rattle.role_graph.proofs.Falling.{tree_public}
use Rattle.role_graph.proofs.store_roles.StoreRoles.into_clearance.Goals as goal

pub returns-in_default : goal.returns-in_default
returns-in_default c =
    let tree = c.args.self.now.shape.now.tree in
    let pairs = c.args.self.now.grants.now.pairs in
    let is = tree_public tree pairs c.is_tree.ensures in
    nothing_more c.args.found.now.items _ (low_into tree pairs is c.args.c c.in_default.ensures.told)

pub returns-then-not-has_on : goal.returns-then-not-has_on
returns-then-not-has_on c =
    let tree = c.args.self.now.shape.now.tree in
    let pairs = c.args.self.now.grants.now.pairs in
    let is = tree_public tree pairs c.is_tree.ensures in
    nothing_more c.args.found.now.items _ (lone_into tree pairs is c.args.c c.in-Some.x c.in-Some.ensures.told (sym c.has_on.ensures ∙ c.if-not-has_on.true))

pub returns-in_default-folder_of : goal.returns-in_default-folder_of
returns-in_default-folder_of c =
    let tree = c.args.self.now.shape.now.tree in
    let pairs = c.args.self.now.grants.now.pairs in
    let is = tree_public tree pairs c.is_tree.ensures in
    nothing_more c.args.found.now.items _ (gone_into tree pairs is c.args.c c.in-Some.x c.in-Some.ensures.told c.in_default-folder_of.ensures)

pub returns : goal.returns
returns c =
    let tree = c.args.self.now.shape.now.tree in
    let pairs = c.args.self.now.grants.now.pairs in
    let is = tree_public tree pairs c.is_tree.ensures in
    c.in_ok-push.ensures.items
    ∙ ap (λ (l : List Edge). c.args.found.now.items ++ l)
    (ap (λ (e : Edge). e ∷ []) c.owner_to_clear.ensures ∙ sym (cleared_into tree pairs is c.args.c c.in-Some.x c.in-Some-folder_of._folder c.in-Some.ensures.told (sym c.has_on.ensures ∙ c.if-not-has_on.false) c.in-Some-folder_of.ensures))
