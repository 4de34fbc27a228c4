use Rattle.std.proofs.Common.{◌≢◌, ◌∙◌, ap, map, sym, subst}
use Rattle.std.specs.List.{AllPairs}
use Rattle.std.specs.List.Sorted.{IsPermutation}
use Rattle.std.proofs.lemmas.Result.{IfOk-weaker}
use Rattle.folder_nodes.specs.Indexing.{IsIndexed, place_of}
use Rattle.folder_nodes.specs.declared.spots.Spot.{Spot}
use Rattle.sorted_table.specs.Tabled.{Tabled}
use Rattle.folder_nodes.proofs.Indexed.{by_spot, index_of, places_apart}
use Rattle.folder_nodes.proofs.grouped.spots_of.Goals as goal

pub of_unordered-requires : goal.of_unordered-requires
of_unordered-requires g c =
    subst (AllPairs (λ (p q : Spot). by_spot p ≢ by_spot q)) (sym c.in_ok-spots.ensures.spots)
    (rw (c.rows.ensures.rows) (places_apart g.row.T.Denot g.T.Ranked.rank g.T.Member.group c.args.rows.now.rows c.rows.ensures.rising (rw (← c.rows.ensures.rows) c.in_ok-spots.ensures.small)))

pub returns : goal.returns
returns g c =
    IfOk-weaker c.of_unordered.result
    (λ (made : Tabled Spot). IsPermutation c.in_ok-spots.spots.items made.rows)
    (λ (made : Tabled Spot). IsIndexed g.T.Ranked.rank g.T.Member.group c.args.rows.now.rows made.rows)
    (λ made moved. index_of g.row.T.Denot g.T.Ranked.rank g.T.Member.group c.args.rows.now.rows c.in_ok-spots.spots.items made.rows
    (rw (← c.rows.ensures.rows) c.in_ok-spots.ensures.small) (c.in_ok-spots.ensures.spots ∙ ap (map (place_of g.T.Ranked.rank g.T.Member.group)) c.rows.ensures.rows) moved)
    c.of_unordered.ensures
