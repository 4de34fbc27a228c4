use Rattle.public_fold.proofs.FewTurns.{few_left}
use Rattle.public_fold.proofs.state_laws.few_turns_leave_few_rows.Goals as goal

pub returns : goal.returns
returns c = few_left
