use Rattle.std.proofs.Common.{[], ◌∷◌, sym, ◌∙◌}
use Rattle.role_graph.proofs.AtClearances.{cleared_from, gone_from, lone_from, low_from, nothing_more}
use Rattle.role_graph.proofs.Falling.{tree_public}
use Rattle.role_graph.proofs.RoleEdges.{added_twice}
use Rattle.role_graph.proofs.store_roles.StoreRoles.from_clearance.Goals as goal

pub returns-in_default : goal.returns-in_default
returns-in_default c =
    let tree = c.args.self.now.shape.now.tree in
    let pairs = c.args.self.now.grants.now.pairs in
    let is = tree_public tree pairs c.is_tree.ensures in
    nothing_more c.args.found.now.items _ (low_from tree pairs is c.args.c c.in_default.ensures.told)

pub returns-then-not-has_on : goal.returns-then-not-has_on
returns-then-not-has_on c =
    let tree = c.args.self.now.shape.now.tree in
    let pairs = c.args.self.now.grants.now.pairs in
    let is = tree_public tree pairs c.is_tree.ensures in
    nothing_more c.args.found.now.items _ (lone_from tree pairs is c.args.c c.in-Some.x c.in-Some.ensures.told (sym c.has_on.ensures ∙ c.if-not-has_on.true))

pub returns-in_default-folder_of : goal.returns-in_default-folder_of
returns-in_default-folder_of c =
    let tree = c.args.self.now.shape.now.tree in
    let pairs = c.args.self.now.grants.now.pairs in
    let is = tree_public tree pairs c.is_tree.ensures in
    nothing_more c.args.found.now.items _ (gone_from tree pairs is c.args.c c.in-Some.x c.in-Some.ensures.told c.in_default-folder_of.ensures)

pub returns : goal.returns
returns c =
    let tree = c.args.self.now.shape.now.tree in
    let pairs = c.args.self.now.grants.now.pairs in
    let is = tree_public tree pairs c.is_tree.ensures in
    added_twice c.args.found.now.items (c.clearance_to_file.result ∷ []) (c.clearance_to_back.result ∷ []) _ c.push.new.self.items c.push-2.new.self.items
    c.in_ok-push.ensures.items c.in_ok-push-2.ensures.items
    ((λ i. c.clearance_to_file.ensures i ∷ c.clearance_to_back.ensures i ∷ []) ∙ sym (cleared_from tree pairs is c.args.c c.in-Some.x c.in-Some-folder_of.f c.in-Some.ensures.told (sym c.has_on.ensures ∙ c.if-not-has_on.false) c.in-Some-folder_of.ensures))
