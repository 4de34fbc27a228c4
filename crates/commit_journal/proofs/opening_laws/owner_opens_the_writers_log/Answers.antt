use Rattle.commit_journal.proofs.Writers.{opened_as_read}
use Rattle.commit_journal.proofs.opening_laws.owner_opens_the_writers_log.Goals as goal

pub returns : goal.returns
returns c = opened_as_read
