use Rattle.std.proofs.Common.{◌≡◌, length, map, take}
use Rattle.std.specs.List.{AllZip}
use Rattle.log_index.proofs.spots.spots_of.Given as goal

abbrev pub invariant-loop-of : goal.invariant-loop-of
invariant-loop-of g l = record {
  spelled : AllZip (g.S.Spot.is_row_of l.last) (take (length l.yielded) l.all) (take (length l.yielded) l.rows);
  spots : AllZip (g.S.Spot.is_of l.last) (take (length l.yielded) l.all) l.spots.items;
  rows : take (length l.yielded) l.rows ≡ map g.S.Spot.row_of l.spots.items;
}
