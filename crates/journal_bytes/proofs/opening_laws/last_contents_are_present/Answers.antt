use Rattle.journal_bytes.proofs.LogsWalked.{journal_contents}
use Rattle.journal_bytes.proofs.opening_laws.last_contents_are_present.Goals as goal

pub returns : goal.returns
returns c = journal_contents
