use Rattle.closure_laws.proofs.Serving.{edges_derive, rights_derive}
use Rattle.closure_laws.proofs.right_laws.rights_derive_keys.Goals as goal

pub returns : goal.returns
returns c = record { edges = edges_derive; rights = rights_derive }
