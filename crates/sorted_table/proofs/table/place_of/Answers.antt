use Rattle.std.proofs.Common.{◌∙◌, IfOk, IfErr, Less, sym, arith, rules}
use Rattle.std.specs.Ordering.{nat_cmp}
use Rattle.std.proofs.lemmas.Cmp.{ranked}
use Rattle.std.proofs.lemmas.Fn.{always_returns_same}
use Rattle.sorted_table.specs.Places.{IsAt, IsGapFor}
use Rattle.sorted_table.proofs.Searched.{behind_all, searched}
use Rattle.sorted_table.proofs.table.place_of.Given.{Over}
use Rattle.sorted_table.proofs.table.place_of.Goals as goal
use Rattle.sorted_table.proofs.table.place_of.Goals.{After-binary_search_by}

pub returns-in-Less-clause-absent : goal.returns-in-Less-clause-absent
returns-in-Less-clause-absent g c =
    behind_all _ g.T.Ranked.rank c.args.rows.now (g.K.Key.sought c.args.key.now) c.min-at.result c.index-rows-at.result c.requires
    (omega (arith, c.in-Some.ensures, c.if-at-last.true))
    c.index-rows-at.is
    (ranked _ (g.K.Key.sought c.args.key.now) Less (sym c.in-Less.is ∙ c.compare_row.ensures))

-- the closure compares a row's rank with the one that is sought
place : (g : Over) (c : After-binary_search_by g) → record {
  found : IfOk c.binary_search_by.result (IsAt g.T.Ranked.rank c.args.rows.now (g.K.Key.sought c.args.key.now));
  absent : IfErr c.binary_search_by.result (IsGapFor g.T.Ranked.rank c.args.rows.now (g.K.Key.sought c.args.key.now));
}
place g c =
    let facts = c.binary_search_by.ensures in
    let by_rank = facts.position (λ row. nat_cmp (g.T.Ranked.rank row) (g.K.Key.sought c.args.key.now)) (always_returns_same _ _ _ (λ a r h called. search rules)) in
    searched _ g.T.Ranked.rank c.args.rows.now _ c.requires _ facts.bound by_rank

pub returns-in_default-compare_row-clause-found : goal.returns-in_default-compare_row-clause-found
returns-in_default-compare_row-clause-found g c = (place g c).found

pub returns-in_default-compare_row-clause-absent : goal.returns-in_default-compare_row-clause-absent
returns-in_default-compare_row-clause-absent g c = (place g c).absent
