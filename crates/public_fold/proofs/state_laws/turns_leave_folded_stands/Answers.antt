use Rattle.public_fold.proofs.FoldedStands.{log_folded, nothing_folded, turns_folded}
use Rattle.public_fold.proofs.state_laws.turns_leave_folded_stands.Goals as goal

pub returns : goal.returns
returns c = record {
  nothing = nothing_folded;
  turns = λ at links turns holds folded fit. turns_folded turns at links holds folded fit;
  log = log_folded;
}
