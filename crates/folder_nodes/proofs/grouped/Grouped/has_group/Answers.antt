use Rattle.std.proofs.Common.{not, ◌∙◌, ap}
use Rattle.folder_nodes.proofs.Indexed.{under_some}
use Rattle.folder_nodes.proofs.grouped.Grouped.has_group.Goals as goal

pub returns : goal.returns
returns g c =
    rw (← c.self.view_is) (ap not c.are_none.ensures
    ∙ under_some g.row.T.Denot g.T.Ranked.rank g.T.Member.group c.self.inside.rows.rows c.self.inside.spots.rows c.spots_under.result c.args.group c.self.invariant c.spots_under.ensures.places)
