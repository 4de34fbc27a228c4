use Rattle.commit_journal.proofs.Refilled.{filled_behind}
use Rattle.commit_journal.proofs.opening_laws.filled_bytes_keep_the_rest.Goals as goal

pub returns : goal.returns
returns c = filled_behind
