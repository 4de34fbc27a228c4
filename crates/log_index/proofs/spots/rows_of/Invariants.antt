use Rattle.std.proofs.Common.{◌≡◌, map, take}
use Rattle.log_index.proofs.spots.rows_of.Given as goal

abbrev pub invariant-loop-spot : goal.invariant-loop-spot
invariant-loop-spot g l = l.rows.items ≡ map g.S.Spot.row_of (take l.spot-index l.spots)
