use Rattle.closure_laws.proofs.Gaining.{gains_told}
use Rattle.closure_laws.proofs.laws.gains_are_told.Goals as goal

pub returns : goal.returns
returns c = gains_told
