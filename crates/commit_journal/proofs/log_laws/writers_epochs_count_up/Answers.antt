use Rattle.commit_journal.proofs.Epochs.{writer_epochs}
use Rattle.commit_journal.proofs.log_laws.writers_epochs_count_up.Goals as goal

pub returns : goal.returns
returns c = writer_epochs
