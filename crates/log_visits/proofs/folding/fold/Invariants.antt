use Rattle.std.proofs.Common.{drop, map}
use Rattle.commit_journal.specs.Placed.{plain_placed}
use Rattle.log_visits.proofs.Folded.{IsFoldedTo}
use Rattle.log_visits.proofs.folding.fold.Given as goal

abbrev pub invariant-loop-placed : goal.invariant-loop-placed
invariant-loop-placed l = IsFoldedTo (map plain_placed l.log) (map plain_placed (drop l.placed-index l.log)) l.state
