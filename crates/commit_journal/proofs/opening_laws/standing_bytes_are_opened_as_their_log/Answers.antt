use Rattle.commit_journal.proofs.Reopened.{opened_standing}
use Rattle.commit_journal.proofs.opening_laws.standing_bytes_are_opened_as_their_log.Goals as goal

pub returns : goal.returns
returns c = opened_standing
