use Rattle.closure_laws.proofs.Gaining.{derived_told}
use Rattle.closure_laws.proofs.laws.derived_is_by_trails.Goals as goal

pub returns : goal.returns
returns c = derived_told
