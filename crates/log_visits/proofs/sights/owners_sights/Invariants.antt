use Rattle.std.proofs.Common.{◌≡◌, ◌++◌, map}
use Rattle.log_visits.specs.Sights.{owners_sight}
use Rattle.log_visits.proofs.sights.owners_sights.Given as goal

abbrev pub invariant-loop-row : goal.invariant-loop-row
invariant-loop-row l = l.sights.items ++ map (owners_sight l.shape.tree) l.row-iterator ≡ map (owners_sight l.shape.tree) l.fn.rows
