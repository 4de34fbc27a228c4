use Rattle.std.proofs.Common.{◌≡◌, ◌∙◌, Some, ap, sym, subst}
use Rattle.std.specs.Prelude.{IsSome}
use Rattle.sorted_table.specs.Rows.{row_at, with_row, without}
use Rattle.folder_nodes.specs.Indexing.{spot_of}
use Rattle.folder_nodes.specs.declared.spots.Spot.{Spot}
use Rattle.folder_nodes.proofs.Indexed.{by_spot, index_kept, index_moved, spot_freed, spot_there}
use Rattle.folder_nodes.proofs.grouped.Grouped.replace.Goals as goal

pub invariant_of-self : goal.invariant_of-self
invariant_of-self g c =
    let i = c.self.inside in
    let was = c.in-Some.was.now in
    let found : row_at g.T.Ranked.rank i.rows.rows (g.T.Ranked.rank c.args.row) ≡ Some was = ap (λ (q : Spot). row_at g.T.Ranked.rank i.rows.rows q.id) (sym c.spot_in-to.ensures.place) ∙ sym c.in-Some.ensures.row in
    let same : g.T.Member.group was ≡ g.T.Member.group c.args.row = ap (λ (q : Spot). q.group) (sym c.spot_in-from.ensures.place) ∙ c.if-from-to.true ∙ ap (λ (q : Spot). q.group) c.spot_in-to.ensures.place in
    rw (c.replace.ensures.rows) (index_kept g.row.T.Denot g.T.Ranked.rank g.T.Member.group i.rows.rows c.args.row was found i.spots.rows c.self.invariant c.in-Some.ensures.rising same)

pub exchange-requires-clause-there : goal.exchange-requires-clause-there
exchange-requires-clause-there g c =
    let i = c.self.inside in
    let was = c.in-Some.was.now in
    let found : row_at g.T.Ranked.rank i.rows.rows (g.T.Ranked.rank c.args.row) ≡ Some was = ap (λ (q : Spot). row_at g.T.Ranked.rank i.rows.rows q.id) (sym c.spot_in-to.ensures.place) ∙ sym c.in-Some.ensures.row in
    subst (λ (q : Spot). IsSome (row_at by_spot i.spots.rows (by_spot q))) (sym c.spot_in-from.ensures.place)
    (spot_there g.row.T.Denot g.T.Ranked.rank g.T.Member.group i.rows.rows c.args.row was found i.spots.rows c.self.invariant)

pub exchange-requires-clause-absent : goal.exchange-requires-clause-absent
exchange-requires-clause-absent g c =
    let i = c.self.inside in
    let was = c.in-Some.was.now in
    let row = c.args.row in
    let found : row_at g.T.Ranked.rank i.rows.rows (g.T.Ranked.rank c.args.row) ≡ Some was = ap (λ (q : Spot). row_at g.T.Ranked.rank i.rows.rows q.id) (sym c.spot_in-to.ensures.place) ∙ sym c.in-Some.ensures.row in
    ap (λ (q : Spot). row_at by_spot (without by_spot i.spots.rows (by_spot c.spot_in-from.result)) (by_spot q)) c.spot_in-to.ensures.place
    ∙ ap (λ (q : Spot). row_at by_spot (without by_spot i.spots.rows (by_spot q)) (by_spot (spot_of (g.T.Member.group row) (g.T.Ranked.rank row)))) c.spot_in-from.ensures.place
    ∙ spot_freed g.row.T.Denot g.T.Ranked.rank g.T.Member.group i.rows.rows row was found i.spots.rows c.self.invariant c.in-Some.ensures.rising c.spot_in-to.ensures.small

pub invariant_of-self-2 : goal.invariant_of-self-2
invariant_of-self-2 g c =
    let i = c.self.inside in
    let was = c.in-Some.was.now in
    let row = c.args.row in
    let found : row_at g.T.Ranked.rank i.rows.rows (g.T.Ranked.rank c.args.row) ≡ Some was = ap (λ (q : Spot). row_at g.T.Ranked.rank i.rows.rows q.id) (sym c.spot_in-to.ensures.place) ∙ sym c.in-Some.ensures.row in
    let from = spot_of (g.T.Member.group was) (g.T.Ranked.rank was) in
    let to = spot_of (g.T.Member.group row) (g.T.Ranked.rank row) in
    let spots : c.exchange.new.self.rows ≡ with_row by_spot (without by_spot i.spots.rows (by_spot from)) to =
    c.exchange.ensures.rows
    ∙ ap (with_row by_spot (without by_spot i.spots.rows (by_spot c.spot_in-from.result))) c.spot_in-to.ensures.place
    ∙ ap (λ (q : Spot). with_row by_spot (without by_spot i.spots.rows (by_spot q)) to) c.spot_in-from.ensures.place in
    rw (c.replace-2.ensures.rows, spots) (index_moved g.row.T.Denot g.T.Ranked.rank g.T.Member.group i.rows.rows row was found i.spots.rows c.self.invariant c.in-Some.ensures.rising c.spot_in-to.ensures.small)
