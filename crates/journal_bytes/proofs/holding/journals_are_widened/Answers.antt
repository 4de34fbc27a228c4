use Rattle.commit_journal.proofs.KeptLemmas.{between_wider}
use Rattle.journal_bytes.specs.Journals.{StandsForJournal}
use Rattle.journal_bytes.proofs.holding.journals_are_widened.Goals as goal

pub returns : goal.returns
returns g c owner low high lower higher down up holds = between_wider (StandsForJournal owner) low high lower higher _ _ down up holds
