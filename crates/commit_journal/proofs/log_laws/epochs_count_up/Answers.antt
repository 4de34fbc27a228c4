use Rattle.commit_journal.proofs.Epochs.{log_epochs}
use Rattle.commit_journal.proofs.log_laws.epochs_count_up.Goals as goal

pub returns : goal.returns
returns c = log_epochs
