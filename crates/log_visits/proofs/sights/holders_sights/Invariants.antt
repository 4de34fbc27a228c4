use Rattle.std.proofs.Common.{◌≡◌, ◌++◌, map}
use Rattle.log_visits.specs.Sights.{holders_sight}
use Rattle.log_visits.proofs.sights.holders_sights.Given as goal

abbrev pub invariant-loop-row : goal.invariant-loop-row
invariant-loop-row l =
    l.sights.items ++ map (holders_sight l.shape.tree l.grants.pairs l.h.0) l.row-iterator ≡ map (holders_sight l.shape.tree l.grants.pairs l.h.0) l.fn.rows
