use Rattle.journal_bytes.proofs.Followed.{journal_followed}
use Rattle.journal_bytes.proofs.opening_laws.valid_journals_are_followed.Goals as goal

pub returns : goal.returns
returns c = journal_followed
