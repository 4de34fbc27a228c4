use Rattle.journal_bytes.proofs.Spelled.{journal_spelled}
use Rattle.journal_bytes.proofs.opening_laws.valid_journals_have_spellings.Goals as goal

pub returns : goal.returns
returns c = journal_spelled
