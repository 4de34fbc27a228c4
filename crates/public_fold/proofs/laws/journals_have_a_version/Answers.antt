use Rattle.public_fold.proofs.Versioned.{journal_version}
use Rattle.public_fold.proofs.laws.journals_have_a_version.Goals as goal

pub returns : goal.returns
returns c = journal_version
