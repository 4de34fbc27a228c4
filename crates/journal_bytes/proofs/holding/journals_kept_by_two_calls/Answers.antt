use Rattle.commit_journal.proofs.KeptLemmas.{kept_then}
use Rattle.journal_bytes.specs.Journals.{StandsForJournal}
use Rattle.journal_bytes.proofs.holding.journals_kept_by_two_calls.Goals as goal

pub returns : goal.returns
returns g c owner low high reached a b further first start order goes lower second more kept next =
    kept_then (StandsForJournal owner) low high reached a b further start first _ _ order goes lower second more kept next
