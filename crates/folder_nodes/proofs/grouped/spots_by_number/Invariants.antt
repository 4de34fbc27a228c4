use Rattle.std.proofs.Common.{◌≡◌, ◌++◌, ◌<◌, All, map}
use Rattle.folder_nodes.specs.Indexing.{place_of}
use Rattle.folder_nodes.proofs.grouped.spots_by_number.Given as goal

abbrev pub invariant-loop-row : goal.invariant-loop-row
invariant-loop-row g l =
    (l.spots.items ++ map (place_of g.T.Ranked.rank g.T.Member.group) l.row-iterator ≡ map (place_of g.T.Ranked.rank g.T.Member.group) l.fn.rows)
    × (All (λ r. g.T.Ranked.rank r < 4294967296) l.row-iterator → All (λ r. g.T.Ranked.rank r < 4294967296) l.fn.rows)
