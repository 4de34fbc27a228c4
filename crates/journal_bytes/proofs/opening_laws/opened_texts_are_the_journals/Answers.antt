use Rattle.journal_bytes.proofs.LogsWalked.{journal_holder}
use Rattle.journal_bytes.proofs.OwnerVisits.{journal_seen, owner_seen}
use Rattle.journal_bytes.proofs.opening_laws.opened_texts_are_the_journals.Goals as goal

pub returns : goal.returns
returns c = record { owner = owner_seen; anyone = journal_seen; holders = journal_holder }
