use Rattle.std.proofs.Common.{sym, ◌∙◌}
use Rattle.role_graph.proofs.Falling.{levels_standing, levels_absent}
use Rattle.role_graph.proofs.store_roles.StoreRoles.levels.Goals as goal

pub returns-then-has_folder-clause-levels : goal.returns-then-has_folder-clause-levels
returns-then-has_folder-clause-levels c =
    levels_standing c.args.self.now.shape.now.tree c.is_tree.ensures c.args.f.0 c.depth.result (sym c.has_folder.ensures ∙ c.if-has_folder.true) c.depth.ensures.depth

pub returns-else-has_folder-clause-levels : goal.returns-else-has_folder-clause-levels
returns-else-has_folder-clause-levels c = levels_absent c.args.self.now.shape.now.tree c.args.f.0 (sym c.has_folder.ensures ∙ c.if-has_folder.false)
