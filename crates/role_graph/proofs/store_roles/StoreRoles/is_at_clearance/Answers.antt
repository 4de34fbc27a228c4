use Rattle.std.proofs.Common.{sym, ◌∙◌}
use Rattle.role_graph.proofs.Joining.{clearance_folder, clearance_joined, clearance_none}
use Rattle.role_graph.proofs.store_roles.StoreRoles.is_at_clearance.Goals as goal

pub returns-then-not-has_on : goal.returns-then-not-has_on
returns-then-not-has_on c =
    let tree = c.args.self.now.shape.now.tree in
    let pairs = c.args.self.now.grants.now.pairs in
    clearance_none tree pairs c.args.c c.args.from c.args.to (sym c.has_on.ensures ∙ c.if-not-has_on.true)

pub returns-in-Some : goal.returns-in-Some
returns-in-Some c =
    let tree = c.args.self.now.shape.now.tree in
    let pairs = c.args.self.now.grants.now.pairs in
    c.joins_clearance.ensures ∙ clearance_joined tree pairs c.args.c c.in-Some.x c.args.from c.args.to (sym c.has_on.ensures ∙ c.if-not-has_on.false) c.in-Some.ensures.value

pub returns-in-None : goal.returns-in-None
returns-in-None c =
    let tree = c.args.self.now.shape.now.tree in
    let pairs = c.args.self.now.grants.now.pairs in
    clearance_folder tree pairs c.args.c c.args.from c.args.to (sym c.has_on.ensures ∙ c.if-not-has_on.false) c.in-None.ensures.value
