use Rattle.log_visits.proofs.FoldedHolds.{log_with}
use Rattle.log_visits.proofs.fold_laws.folded_logs_hold.Goals as goal

pub returns : goal.returns
returns c = log_with
