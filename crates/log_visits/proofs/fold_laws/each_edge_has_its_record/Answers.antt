use Rattle.log_visits.proofs.FoldedHolds.{each_edge_found}
use Rattle.log_visits.proofs.fold_laws.each_edge_has_its_record.Goals as goal

pub returns : goal.returns
returns c = each_edge_found
