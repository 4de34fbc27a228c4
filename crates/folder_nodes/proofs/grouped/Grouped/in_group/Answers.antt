use Rattle.folder_nodes.proofs.Indexed.{under_rising, under_all}
use Rattle.folder_nodes.proofs.grouped.Grouped.in_group.Goals as goal

pub returns-clause-rising : goal.returns-clause-rising
returns-clause-rising g c =
    under_rising g.row.T.Denot g.T.Ranked.rank g.T.Member.group c.self.inside.rows.rows c.self.inside.spots.rows c.spots_under.result c.self.invariant c.args.group c.spots_under.ensures.places c.spots_under.ensures.rising

pub returns-clause-all : goal.returns-clause-all
returns-clause-all g c =
    rw (← c.self.view_is) (λ r i same. under_all g.row.T.Denot g.T.Ranked.rank g.T.Member.group c.self.inside.rows.rows c.self.inside.spots.rows c.spots_under.result c.args.group c.self.invariant c.spots_under.ensures.places r i same)
