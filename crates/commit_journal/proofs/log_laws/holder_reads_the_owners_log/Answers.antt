use Rattle.commit_journal.proofs.Epochs.{holder_too}
use Rattle.commit_journal.proofs.log_laws.holder_reads_the_owners_log.Goals as goal

pub returns : goal.returns
returns c = holder_too
