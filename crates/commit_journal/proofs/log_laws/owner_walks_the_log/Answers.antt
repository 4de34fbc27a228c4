use Rattle.commit_journal.proofs.Walks.{owner_walks}
use Rattle.commit_journal.proofs.log_laws.owner_walks_the_log.Goals as goal

pub returns : goal.returns
returns c = owner_walks
