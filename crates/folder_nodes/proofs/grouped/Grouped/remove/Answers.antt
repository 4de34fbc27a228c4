use Rattle.std.proofs.Common.{◌≡◌, ◌∙◌, ap, sym}
use Rattle.sorted_table.specs.Rows.{without}
use Rattle.folder_nodes.specs.Indexing.{spot_of}
use Rattle.folder_nodes.specs.declared.spots.Spot.{Spot}
use Rattle.folder_nodes.proofs.Indexed.{by_spot, index_without, none_less}
use Rattle.folder_nodes.proofs.grouped.Grouped.remove.Goals as goal

pub returns-in_default-clause-rows : goal.returns-in_default-clause-rows
returns-in_default-clause-rows g c =
    rw (← c.self.view_is) (sym (none_less g.row.T.Denot g.T.Ranked.rank g.T.Member.group c.self.inside.rows.rows (g.K.Key.sought c.args.key.now) (sym c.in_default.ensures.row)))

pub invariant_of-self : goal.invariant_of-self
invariant_of-self g c =
    let i = c.self.inside in
    let row = c.in-Some.row.now in
    let spots : c.remove.new.self.rows ≡ without by_spot i.spots.rows (by_spot (spot_of (g.T.Member.group row) (g.T.Ranked.rank row))) =
    c.remove.ensures.rows ∙ ap (λ (q : Spot). without by_spot i.spots.rows (by_spot q)) c.spot_in-spot.ensures.place in
    rw (c.remove-2.ensures.rows, spots) (index_without g.row.T.Denot g.T.Ranked.rank g.T.Member.group i.rows.rows i.spots.rows (g.K.Key.sought c.args.key.now) row c.self.invariant c.in-Some.ensures.rising (sym c.in-Some.ensures.row))
