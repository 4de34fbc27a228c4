use Rattle.journal_bytes.proofs.NeverFails.{journal_opened}
use Rattle.journal_bytes.proofs.opening_laws.journals_are_opened.Goals as goal

pub returns : goal.returns
returns c = journal_opened
