use Rattle.commit_journal.proofs.Stopped.{verdict_standing}
use Rattle.commit_journal.proofs.standing.standing_bytes_are_read_as_published.Goals as goal

pub returns : goal.returns
returns c = verdict_standing
