use Rattle.commit_journal.proofs.OpenedJournals.{journal_whole, placed_whole, slots_whole}
use Rattle.commit_journal.proofs.opening_laws.opened_journal_stands_for_its_batches.Goals as goal

pub returns : goal.returns
returns c = record { journal = journal_whole; placed = placed_whole; filled = slots_whole }
