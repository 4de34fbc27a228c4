use Rattle.clearance_laws.proofs.FirstVersion.{journal_below}
use Rattle.clearance_laws.proofs.laws.first_version_stores_grant_no_files.Goals as goal

pub returns : goal.returns
returns c = journal_below
