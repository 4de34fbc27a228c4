use Rattle.std.proofs.Common.{◌≡◌, ◌∙◌, ap}
use Rattle.sorted_table.specs.Rows.{row_at, with_row}
use Rattle.folder_nodes.specs.Indexing.{spot_of}
use Rattle.folder_nodes.specs.declared.spots.Spot.{Spot}
use Rattle.folder_nodes.proofs.Indexed.{by_spot, spot_absent, index_with}
use Rattle.folder_nodes.proofs.grouped.Grouped.insert.Goals as goal

pub insert-requires-clause-absent : goal.insert-requires-clause-absent
insert-requires-clause-absent g c =
    let i = c.self.inside in
    let none = rw (← c.self.view_is) at c.requires.absent in
    ap (λ (q : Spot). row_at by_spot i.spots.rows (by_spot q)) c.spot_in.ensures.place
    ∙ spot_absent g.row.T.Denot g.T.Ranked.rank g.T.Member.group i.rows.rows i.spots.rows c.args.row c.self.invariant c.spot_in.ensures.small none

pub invariant_of-self : goal.invariant_of-self
invariant_of-self g c =
    let i = c.self.inside in
    let none = rw (← c.self.view_is) at c.requires.absent in
    let spots : c.insert.new.self.rows ≡ with_row by_spot i.spots.rows (spot_of (g.T.Member.group c.args.row) (g.T.Ranked.rank c.args.row)) = c.insert.ensures.rows ∙ ap (with_row by_spot i.spots.rows) c.spot_in.ensures.place in
    rw (c.insert-2.ensures.rows, spots) (index_with g.row.T.Denot g.T.Ranked.rank g.T.Member.group i.rows.rows i.spots.rows c.args.row c.self.invariant c.spot_in.ensures.small none)
