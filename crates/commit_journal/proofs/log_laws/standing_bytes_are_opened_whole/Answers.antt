use Rattle.commit_journal.proofs.Written.{written_standing}
use Rattle.commit_journal.proofs.log_laws.standing_bytes_are_opened_whole.Goals as goal

pub returns : goal.returns
returns c = written_standing
