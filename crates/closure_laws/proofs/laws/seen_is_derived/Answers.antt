use Rattle.closure_laws.proofs.Growing.{seen_told}
use Rattle.closure_laws.proofs.laws.seen_is_derived.Goals as goal

pub returns : goal.returns
returns c = seen_told
