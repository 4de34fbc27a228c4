use Rattle.std.proofs.Common.{sym, ◌∙◌}
use Rattle.log_visits.proofs.WayDown.{absent_depth}
use Rattle.log_visits.proofs.sights.depth_of.Goals as goal

pub returns-else-has_folder : goal.returns-else-has_folder
returns-else-has_folder c = absent_depth c.args.shape.now.tree c.args.f.0 (sym c.if-has_folder.false ∙ c.has_folder.ensures)
