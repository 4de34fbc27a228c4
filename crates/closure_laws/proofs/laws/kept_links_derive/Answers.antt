use Rattle.closure_laws.proofs.Kept.{kept_derives}
use Rattle.closure_laws.proofs.laws.kept_links_derive.Goals as goal

pub returns : goal.returns
returns c = kept_derives
